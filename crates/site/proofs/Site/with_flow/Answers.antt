-- Right because the four entries are set at the number, and past the end a list stays as it is.
use borrow.Author.Rules.{rules}
use mathlib.Core.Path.{◌≡◌, refl}
use lib.ListN.{length}
use native.Mathlib.Omega.{arith}
use Rattle.site.specs.Sites.{with_flow}
use Rattle.site.proofs.Laws.Flows.{fields_out}
use Rattle.site.proofs.Site.with_flow.Goals as goal

pub returns-then-n-ge64 : goal.returns-then-n-ge64
unfolding with_flow
returns-then-n-ge64 c =
    let a : length c.args.self.states ≡ 64 = search rules in
    let b : length c.args.self.entries ≡ 64 = search rules in
    let d : length c.args.self.rates ≡ 64 = search rules in
    let e : length c.args.self.deadlines ≡ 64 = search rules in
    fields_out _ _ _ _ _ _ (omega arith) (omega arith) (omega arith) (omega arith)

pub returns : goal.returns
unfolding with_flow
returns c = refl
