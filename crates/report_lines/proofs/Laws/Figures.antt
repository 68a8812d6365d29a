-- The figures of a site that a plan was read to have at most five digits.
use Prim.Native.Nat.{ℕ, ◌≤◌, ◌<◌}
use mathlib.Core.Path.{◌≡◌}
use mathlib.Core.Bool.{true}
use mathlib.Core.Logic.{◌⊎◌, inl, inr}
use lib.ListN.{get_or}
use borrow.Author.Tests.{eqb-true}
use native.Mathlib.Omega.{arith}
use Rattle.site.specs.declared.Site.{Site}
use Rattle.site.specs.Sites.{used, live}
use Rattle.site_check.specs.Check.{node_of, flow_of}
use Rattle.limits.specs.Words.{NodeGood}
use Rattle.site_check.specs.Words.{IdleAt, LiveAt, Sound}
use Rattle.report_lines.proofs.Laws.Short.{Figure}

-- The figures of a site that a plan was read to.
module _ (s : Site) (w : Sound s) where
  pub node_at : (i : ℕ) → i < used s.links → NodeGood s.parents i (node_of s i)
  unfolding used
  node_at i l = w.formed.nodes i (omega arith)

  pub few : s.links ≤ 63
  few = w.formed.few

  pub parent_figure : (i : ℕ) → i < used s.links → Figure (get_or s.parents i 0)
  unfolding node_of used
  parent_figure i l = record { is = omega (arith, (node_at i l).parent_below) }

  pub capacity_figure : (i : ℕ) → i < used s.links → Figure (get_or s.capacities i 0)
  unfolding node_of
  capacity_figure i l = record { is = omega (arith, (node_at i l).within.capacity_most) }

  pub gap_figure : (i : ℕ) → i < used s.links → Figure (get_or s.gaps i 0)
  unfolding node_of
  gap_figure i l = record { is = omega (arith, (node_at i l).within.gap_most) }

  pub flow_at_lem : (n : ℕ) → live s n ≡ true → LiveAt s n
  unfolding live
  flow_at_lem n e = go (w.formed.flows n)
    where
      go : IdleAt s n ⊎ LiveAt s n → LiveAt s n
      go (inl f) = absurd (omega (arith, f.idle, eqb-true (get_or s.states n 0) 1 e))
      go (inr f) = f

  pub entry_figure : (n : ℕ) → live s n ≡ true → Figure (get_or s.entries n 0)
  unfolding flow_of
  entry_figure n e = record { is = omega (arith, (flow_at_lem n e).good.entry_most, few) }

  pub rate_figure : (n : ℕ) → live s n ≡ true → Figure (get_or s.rates n 0)
  unfolding flow_of
  rate_figure n e = record { is = omega (arith, (flow_at_lem n e).good.within.rate_most) }

  pub deadline_figure : (n : ℕ) → live s n ≡ true → Figure (get_or s.deadlines n 0)
  unfolding flow_of
  deadline_figure n e = record { is = omega (arith, (flow_at_lem n e).good.within.deadline_most) }
