-- What a line asks for by its name and the words behind it, where its name is not that of a slot.
use Rattle.std.specs.Prelude.{ℕ, Bool, false, cond, ◌&&◌, List, [], ◌∷◌}
use Rattle.text.specs.Letters.{letters}
use Rattle.text.specs.Decimal.{is_number}
use Rattle.line_words.specs.Words.{none, said}
use Rattle.lists.specs.Lists.{same}
use Rattle.request_text.specs.declared.Call.TheVariants.{Start, Admit, Release}
use Rattle.request_text.specs.declared.Question.TheVariants.{Sender, Cells, Bound, Plan, Schedule, Show, Typed}
use Rattle.request_text.specs.declared.Line.{Line}
use Rattle.request_text.specs.declared.Line.TheVariants.{Makes, Asks, Malformed}

-- The words are numbers, one for each limit and at most that.
unfoldable pub numbers : List ℕ → List (List ℕ) → Bool
numbers [] words = none words
numbers (most ∷ limits) [] = false
numbers (most ∷ limits) (word ∷ words) = is_number word most && numbers limits words

-- A line of one word.
unfoldable pub lone_of : List ℕ → Line
lone_of name =
    cond (same name (letters "start")) (Makes Start)
    (cond (same name (letters "plan")) (Asks Plan)
    (cond (same name (letters "schedule")) (Asks Schedule)
    (cond (same name (letters "show")) (Asks Show)
    (cond (same name (letters "typed")) (Asks Typed)
    Malformed))))

-- admit NUMBER NODE RATE DEADLINE.
unfoldable pub admit_line : List (List ℕ) → Line
admit_line words =
    cond (numbers (255 ∷ 255 ∷ 255 ∷ 65535 ∷ []) words)
    (Makes (Admit (record { number = said words 0; entry = said words 1; rate = said words 2; deadline = said words 3 })))
    Malformed

-- release NUMBER.
unfoldable pub release_line : List (List ℕ) → Line
release_line words = cond (numbers (255 ∷ []) words) (Makes (Release (said words 0))) Malformed

-- sender PARENT T.
unfoldable pub sender_line : List (List ℕ) → Line
sender_line words = cond (numbers (255 ∷ 4294967295 ∷ []) words) (Asks (Sender (said words 0) (said words 1))) Malformed

-- cells NUMBER and bound NUMBER.
unfoldable pub flow_question : List ℕ → List (List ℕ) → Line
flow_question name words =
    cond (numbers (63 ∷ []) words)
    (cond (same name (letters "cells")) (Asks (Cells (said words 0)))
    (cond (same name (letters "bound")) (Asks (Bound (said words 0)))
    Malformed))
    Malformed

-- A line of another name.
unfoldable pub other_of : List ℕ → List (List ℕ) → Line
other_of name words =
    cond (none words) (lone_of name)
    (cond (same name (letters "admit")) (admit_line words)
    (cond (same name (letters "release")) (release_line words)
    (cond (same name (letters "sender")) (sender_line words)
    (flow_question name words))))
