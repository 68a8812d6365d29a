-- What hosts' calls have in common: a call works on what its bytes read to, and the lists lent to it have to be of their lengths.
use Rattle.std.specs.Prelude.{ℕ, not, cond, List, eqb, length}
use Rattle.rulings.specs.Outcome.{Outcome, accepted, refused}
use Rattle.site.specs.declared.Site.{Site}
use Rattle.plan_reader.specs.Read.{read_of}

-- What a call comes to on what a reading gives, and what it comes to with the number and the place of a refused one.
unfoldable pub by_reading : {A B : Type 0} → Outcome B → (ℕ → ℕ → A) → (B → A) → A
by_reading (accepted b) otherwise f = f b
by_reading (refused number place) otherwise f = otherwise number place

-- A call on a live site, which 14 refuses where its plan bytes read to none.
unfoldable pub on_site : {A : Type 0} → List ℕ → A → (Site → A) → A
on_site bytes otherwise f = by_reading (read_of bytes) (λ number place. otherwise) f

-- A list that has to be of this length, else 1 refuses the call.
unfoldable pub of_length : {A : Type 0} → List ℕ → ℕ → A → A → A
of_length list n otherwise a = cond (not (eqb (length list) n)) otherwise a
