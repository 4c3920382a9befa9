-- A covered cell gets a number: 32 times a unit column in which its row is open, and half the rank of an edge above which it is open.
-- Cells with the same number lie in one column, and every row between theirs is covered.
-- Assumes nothing.
use mathlib.Core.Path.{◌≡◌, refl, sym, ap, subst, ◌∙◌}
use mathlib.Core.Bool.{Bool, true, false, false≢true}
use mathlib.Core.List.{List}
use Prim.Native.Nat.{ℕ, ◌+◌, ◌*◌, ◌-◌, ◌/◌, ◌≤◌, ◌<◌}
use native.Mathlib.Omega.{arith}
use native.Mathlib.Nat.{div-eq_of_lt-le}
use lib.Dec.{leb}
use borrow.Author.Tests.{ltb-true}
use Rattle.defs.specs.Meaning.Outline.{vx, edge_at, sides}
use Rattle.defs.specs.Meaning.Turn.{greatest}
use Rattle.defs.specs.Computing.Test.{any_to}
use Rattle.defs.specs.Computing.Cells.{not_higher, opens, unitsb}
use Rattle.laws.proofs.Tests.{and_right, any_to_at, any_to_of}
use Rattle.geom.proofs.Extent.{edge_bounded}
use Rattle.mostruns.proofs.Ranks.{rank_at_most}
use Rattle.mostruns.proofs.Between.{Open, opens_decides, open_between}

-- A unit column of column i in which row j is open above an edge.
record Opening (v : List ℕ) (R i j : ℕ) : Type 0 where
  unit : ℕ
  edge : ℕ
  from : i * R ≤ unit
  to : unit < (i + 1) * R
  here : edge < sides v
  is_open : Open v unit j edge

module _ (v : List ℕ) (R : ℕ) where
  opening : (i j : ℕ) → unitsb v (i * R) R j ≡ true → Opening v R i j
  unfolding unitsb
  opening i j e =
      let s = any_to_at (λ k. any_to (opens v (i * R + k) j) (sides v)) R e in
      let t = any_to_at (opens v (i * R + s.i) j) (sides v) s.holds in
      record {
        unit = i * R + s.i;
        edge = t.i;
        from = omega arith;
        to = omega (arith, s.below);
        here = t.below;
        is_open = (opens_decides v (i * R + s.i) j t.i).0 t.holds;
      }

  opening_covers : {i j : ℕ} → Opening v R i j → unitsb v (i * R) R j ≡ true
  unfolding unitsb
  opening_covers {i} {j} u =
      any_to_of (λ k. any_to (opens v (i * R + k) j) (sides v)) R (u.unit - i * R) (omega (arith, u.from, u.to))
      (subst (λ (k : ℕ). any_to (opens v k j) (sides v) ≡ true) (omega (arith, u.from))
      (any_to_of (opens v u.unit j) (sides v) u.edge u.here ((opens_decides v u.unit j u.edge).1 u.is_open)))

  abbrev rank_of : {i j : ℕ} → Opening v R i j → ℕ
  rank_of u = not_higher v u.unit u.edge

  abbrev number_by : {i j : ℕ} → Opening v R i j → ℕ
  number_by u = 32 * u.unit + rank_of u / 2

  -- a cell that is not covered may have any number
  number_if : (i j : ℕ) (b : Bool) → unitsb v (i * R) R j ≡ b → ℕ
  number_if i j true e = number_by (opening i j e)
  number_if i j false e = 0

  pub number : ℕ → ℕ → ℕ
  number i j = number_if i j (unitsb v (i * R) R j) refl

  numbered : (i j : ℕ) → unitsb v (i * R) R j ≡ true → (u : Opening v R i j) × (number i j ≡ number_by u)
  unfolding number number_if
  numbered i j = go (unitsb v (i * R) R j) refl
    where
      go : (b : Bool) (e : unitsb v (i * R) R j ≡ b) → b ≡ true → (u : Opening v R i j) × (number_if i j b e ≡ number_by u)
      go true e t = (opening i j e, refl)
      go false e t = absurd (false≢true t)

  module _ (few : sides v ≤ 64) where
    rank_limit : {i j : ℕ} (u : Opening v R i j) → rank_of u / 2 < 32
    rank_limit u = omega (arith, u.is_open.odd, rank_at_most u.unit v u.edge)

    -- an edge that spans the unit column ends to the right of it
    pub number_below : (i j : ℕ) → unitsb v (i * R) R j ≡ true → number i j < 32 * greatest (vx v) (sides v)
    number_below i j e =
        let u = (numbered i j e).0 in
        omega (
          arith,
          (numbered i j e).1,
          rank_limit u,
          (edge_bounded v u.edge u.here).right,
          ltb-true u.unit (edge_at v u.edge).xr (and_right (leb (edge_at v u.edge).xl u.unit) _ u.is_open.edge),
        )

    pub number_joins : (i j i' j' : ℕ) → unitsb v (i * R) R j ≡ true → unitsb v (i' * R) R j' ≡ true → number i j ≡ number i' j' →
        (i ≡ i') × ((x : ℕ) → j ≤ x → x ≤ j' → unitsb v (i' * R) R x ≡ true)
    number_joins i j i' j' p q e = (
      sym (div-eq_of_lt-le R u.from u.to) ∙ ap (λ (k : ℕ). k / R) units ∙ div-eq_of_lt-le R w.from w.to,
      λ x below above.
          opening_covers
          (record {
            unit = w.unit;
            edge = u.edge;
            from = w.from;
            to = w.to;
            here = u.here;
            is_open = open_between v w.unit u.edge w.edge j x j' w.here ranks u_open w.is_open below above;
          }),
    )
      where
        u : Opening v R i j
        u = (numbered i j p).0

        w : Opening v R i' j'
        w = (numbered i' j' q).0

        same : number_by u ≡ number_by w
        same = sym (numbered i j p).1 ∙ e ∙ (numbered i' j' q).1

        units : u.unit ≡ w.unit
        units = omega (arith, same, rank_limit u, rank_limit w)

        u_open : Open v w.unit j u.edge
        u_open = subst (λ (k : ℕ). Open v k j u.edge) units u.is_open

        -- both ranks are odd, and their halves are the same
        ranks : not_higher v w.unit w.edge ≤ not_higher v w.unit u.edge
        ranks = omega (arith, same, units, u_open.odd, w.is_open.odd, ap (λ (k : ℕ). not_higher v k u.edge) units)
