-- What the writer of plans puts into a borrowed slice.
use Rattle.std.specs.Prelude.{ℕ, ◌+◌, ◌-◌, cond, List, [], ◌∷◌, ◌++◌, length, get_or}
use Rattle.lists.specs.Lists.{joined}
use Rattle.site.specs.declared.Site.{Site}
use Rattle.site.specs.Sites.{live}
use Rattle.format.specs.Bytes.{bytes_of}

-- 01, command 01, NODE: parent, capacity and gap; and that of the node at index i.
abbrev pub node_command : ℕ → ℕ → ℕ → List ℕ
node_command parent capacity gap = 1 ∷ parent ∷ bytes_of 2 capacity ++ bytes_of 2 gap

unfoldable pub node_bytes : Site → ℕ → List ℕ
node_bytes s i = node_command (get_or s.parents i 0) (get_or s.capacities i 0) (get_or s.gaps i 0)

-- 01, command 02, FLOW: number, entry node, rate and deadline; and that of flow number n.
abbrev pub flow_command : ℕ → ℕ → ℕ → ℕ → List ℕ
flow_command number entry rate deadline = 2 ∷ number ∷ entry ∷ rate ∷ bytes_of 2 deadline

unfoldable pub flow_bytes : Site → ℕ → List ℕ
flow_bytes s n = flow_command n (get_or s.entries n 0) (get_or s.rates n 0) (get_or s.deadlines n 0)

unfoldable pub flow_if_live : Site → ℕ → List ℕ
flow_if_live s n = cond (live s n) (flow_bytes s n) []

-- 01: the NODEs, then the FLOWs of all live flows by rising number.
unfoldable pub command_bytes : Site → List ℕ
command_bytes s = joined (node_bytes s) s.links 0 ++ joined (flow_if_live s) 64 0

-- These and END.
unfoldable pub plan_bytes : Site → List ℕ
plan_bytes s = command_bytes s ++ (255 ∷ [])

-- The plan bytes of a site before and behind the FLOW of number n, and the index at which it stands or, where the number is not live, would stand.
abbrev pub bytes_before : Site → ℕ → List ℕ
bytes_before s n = joined (node_bytes s) s.links 0 ++ joined (flow_if_live s) n 0

abbrev pub bytes_behind : Site → ℕ → List ℕ
bytes_behind s n = joined (flow_if_live s) (63 - n) (n + 1) ++ (255 ∷ [])

unfoldable pub flow_place : Site → ℕ → ℕ
flow_place s n = length (bytes_before s n)
