-- Right because 1 and 14 are asked before the checks of the flow, which go by the loads of the site.
use mathlib.Core.Path.{sym, ◌∙◌, ap}
use mathlib.Core.List.{List}
use Prim.Native.Nat.{ℕ}
use Rattle.site_check.proofs.Laws.{call_when}
use Rattle.flow_checks.specs.Inner.{flow_ruling_by}
use Rattle.flow_checks.proofs.Laws.Answers.{ruling_by_loads}
use Rattle.admission.specs.Calls.{admit_ruling}
use Rattle.admission.proofs.Laws.Answers.{call_passes}
use Rattle.admission.proofs.judge_admission.Goals as goal

pub returns : goal.returns
unfolding admit_ruling
returns c =
    let site = c.args.site.now in
    let flow = c.args.flow in
    let call = (call_when site c.args.counters.now).0 (sym c.in_default.ensures) in
    call_passes _ _ _ c.in_default.ensures _
    (c.judge_flow.ensures ∙ ap (λ (loads : List ℕ). flow_ruling_by loads site flow) c.loads.ensures ∙ ruling_by_loads site flow call.1.formed.shape.parents)
