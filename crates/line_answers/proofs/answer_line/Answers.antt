-- Right because each kind of line leaves the state and puts the text that are defined of it.
use Rattle.text.proofs.Laws.Put.{puts_then}
use Rattle.line_answers.proofs.Laws.{passed_over, call_made, question_asked, nothing_known}
use Rattle.line_answers.proofs.answer_line.Goals as goal

pub returns-in-PassedOver-clause-carried : goal.returns-in-PassedOver-clause-carried
returns-in-PassedOver-clause-carried c = rw (← c.read_line-asked.ensures) (passed_over _ _ _ c.in-PassedOver.is)

pub returns-in-Makes-clause-carried : goal.returns-in-Makes-clause-carried
returns-in-Makes-clause-carried c =
    rw (← c.read_line-asked.ensures)
    (call_made _ _ _ _ _ _ _ c.in-Makes.is c.make_call-judged.ensures (puts_then _ _ _ _ _ c.put_verdict.ensures.1 c.put.ensures.1))

pub returns-in-Asks-clause-carried : goal.returns-in-Asks-clause-carried
returns-in-Asks-clause-carried c = rw (← c.read_line-asked.ensures) (question_asked _ _ _ _ _ c.in-Asks.is c.put_answer.ensures.1)

pub returns-in-Malformed-clause-carried : goal.returns-in-Malformed-clause-carried
returns-in-Malformed-clause-carried c = rw (← c.read_line-asked.ensures) (nothing_known _ _ _ _ c.in-Malformed.is c.put-in-Malformed.ensures.1)
