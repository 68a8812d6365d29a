-- 01, The site: a tree whose root, the server, is node 0. The list of parents has node n's parent at index n - 1.
use Rattle.std.specs.Prelude.{ℕ, zero, suc, ◌+◌, Bool, true, false, cond, List, [], ◌∷◌, eqb, ltb, get_or, Option, None, slice_get}

-- What a list that has node n's entry at index n - 1 has for a node; none for the root.
abbrev pub entry_of : {A : Type 0} → List A → ℕ → Option A
entry_of xs zero = None
entry_of xs (suc i) = slice_get xs i

-- The parent of a node. The root, and a number beyond the list, are their own.
unfoldable pub up : List ℕ → ℕ → ℕ
up parents zero = zero
up parents (suc i) = get_or parents i (suc i)

-- Numbers fall on the way up: a node whose parent has no smaller number ends it, as the root does. The first argument is how many
-- steps are allowed; a node's own number is always enough.
unfoldable pub depth_in : ℕ → List ℕ → ℕ → ℕ
depth_in zero parents n = 0
depth_in (suc steps) parents n = cond (ltb (up parents n) n) (depth_in steps parents (up parents n) + 1) 0

-- 01, The site: a node is one deeper than its parent, and the root has depth 0.
unfoldable pub depth_of : List ℕ → ℕ → ℕ
depth_of parents n = depth_in n parents n

unfoldable pub climb : ℕ → List ℕ → ℕ → List ℕ
climb zero parents n = []
climb (suc steps) parents n = cond (ltb (up parents n) n) (n ∷ climb steps parents (up parents n)) []

-- 01, the list of demand 3: a route has the links from an entry node upward.
unfoldable pub route : List ℕ → ℕ → List ℕ
route parents n = climb n parents n

-- Whether a route has the link of node n.
unfoldable pub has : ℕ → List ℕ → Bool
has n [] = false
has n (m ∷ ms) = cond (eqb m n) true (has n ms)

-- What a list of links holds for the link of node n; the root has no link.
unfoldable pub of_link : List ℕ → ℕ → ℕ
of_link xs zero = 0
of_link xs (suc i) = get_or xs i 0
