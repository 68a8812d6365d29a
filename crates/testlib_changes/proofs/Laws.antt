-- What the loops of src/lib.rt are proved by: pieces put for one number more, behind those that were put.
use Rattle.lists.proofs.Laws.Items.{joined_zero, joined_more}
use Rattle.text.proofs.Laws.Put.{puts_append}

pub ruleset put_each = (joined_zero, joined_more, puts_append)
