use borrow.Author.Rules.{rules}
use Prim.Native.Nat.{◌+◌}
use mathlib.Core.Path.{◌≡◌, refl}
use mathlib.Core.Bool.{true, false}
use lib.Dec.{leb}
use lib.ListN.{length}
use Rattle.line_words.specs.Parts.{is, Reaches}
use Rattle.rehearsal.proofs.Laws.Typing.{found_reaches, taking_run, taking_line, taken_all, taken_full, taken_of_lent}
use Rattle.rehearsal.proofs.take_up.Goals as goal
use Rattle.rehearsal.proofs.take_up.Goals.{then-loop-taken-test+else-roomy, else-loop-taken-test}

pub loop-taken-preserved-then-end-bytes : goal.loop-taken-preserved-then-end-bytes
loop-taken-preserved-then-end-bytes c =
    let room : leb (c.loop-taken.answers.taken + 8192) (length c.loop-taken.answers.space.now) ≡ true = search rules in
    let ends : Reaches (is 10) c.args.bytes.now c.loop-taken.taken c.unwrap_or-end.result = rw c.unwrap_or-end.ensures (found_reaches _ _ _ _ c.find.ensures) in
    let run = taking_run _ _ _ _ _ _ _ _ _ _ _ c.loop-taken.invariant.going c.loop-taken-test.true room _ ends _ _ c.put-kept.ensures in
    record {
      going = taking_line _ _ _ _ _ _ _ _ _ _ _ run c.if-end-bytes.true room (search (rules, ends.marked c.if-end-bytes.true)) _ _ c.answer_held-site.ensures.carried;
      answers_same = search rules;
      counters_long = search rules;
    }

pub loop-taken-preserved : goal.loop-taken-preserved
loop-taken-preserved c =
    let room : leb (c.loop-taken.answers.taken + 8192) (length c.loop-taken.answers.space.now) ≡ true = search rules in
    let ends : Reaches (is 10) c.args.bytes.now c.loop-taken.taken c.unwrap_or-end.result = rw c.unwrap_or-end.ensures (found_reaches _ _ _ _ c.find.ensures) in
    record {
      going = taking_run _ _ _ _ _ _ _ _ _ _ _ c.loop-taken.invariant.going c.loop-taken-test.true room _ ends _ _ c.put-kept.ensures;
      answers_same = search rules;
      counters_long = search rules;
    }

pub returns : goal.returns
returns c =
    elim c.loop-taken-test.branch [
      | then-loop-taken-test+else-roomy w ↦
          let full : leb (c.loop-taken.answers.taken + 8192) (length c.loop-taken.answers.space.now) ≡ false = search rules in
          taken_of_lent _ _ _ _ _ _ _ _ _ _ _ (taken_full _ _ _ _ _ _ _ _ _ _ _ c.loop-taken.invariant.going w.loop-taken-test.true full)
          _ _ _ _ _ _ _ refl c.over-answers.ensures.empty (search rules) (search rules) refl
      | else-loop-taken-test w ↦ taken_of_lent _ _ _ _ _ _ _ _ _ _ _ (taken_all _ _ _ _ _ _ _ _ _ _ _ c.loop-taken.invariant.going w.loop-taken-test.false)
          _ _ _ _ _ _ _ refl c.over-answers.ensures.empty (search rules) (search rules) refl
    ]
