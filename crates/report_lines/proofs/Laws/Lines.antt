-- Lines put one after the other, by a loop over their items, and a text that is delivered whole.
use Prim.Native.Nat.{ℕ}
use mathlib.Core.Path.{◌≡◌}
use mathlib.Core.List.{List}
use lib.ListN.{length, take}
use lib.Seq.{take-length}
use Rattle.lists.proofs.Laws.Items.{joined_more, joined_zero}
use Rattle.text.proofs.Laws.Put.{puts_append}

-- What such a loop needs.
pub ruleset lines = (joined_more, joined_zero, puts_append)

-- A text of which as many bytes are delivered as it has.
pub all_taken : (text : List ℕ) → take (length text) text ≡ text
all_taken text = take-length text
