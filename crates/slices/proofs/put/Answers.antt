-- Right because the word is stored just where there is room for all of it, and nothing is where there is not.
use mathlib.Core.Path.{sym}
use native.Mathlib.Omega.{arith}
use Rattle.slices.proofs.Laws.Put.{put_stored, put_full}
use Rattle.slices.proofs.put.Goals as goal

pub returns-then-space-size : goal.returns-then-space-size
returns-then-space-size c = sym (put_full _ _ _ (omega arith))

pub returns-then-space-size-2 : goal.returns-then-space-size-2
returns-then-space-size-2 c = sym (put_full _ _ _ (omega arith))

pub returns : goal.returns
returns c = put_stored _ _ _ _ (omega arith) c.store.ensures
