-- A step by the byte that it begins with; a vertex by its two coordinates. Assumes nothing.
use mathlib.Core.Path.{◌≡◌, refl, sym, ap, ◌∙◌}
use mathlib.Core.Logic.{◌⊎◌, inl, inr, ⊎_elim}
use mathlib.Core.Bool.{Bool, true, false, ◌&&◌}
use mathlib.Core.List.{List}
use Prim.Native.Nat.{ℕ, ◌+◌, ◌-◌, ◌≤◌, ◌<◌}
use native.Mathlib.Omega.{arith}
use native.Mathlib.Decide.{dec_lt, ℕ_discrete}
use lib.ListN.{length, get_or, drop}
use lib.Seq.{get_or-drop}
use lib.Ieee.{Float, binary32, of_bits}
use borrow.Author.Tests.{le-ltb, lt-ltb, le-leb, lt-leb, eq-eqb, ne_eqb}
use Rattle.std.specs.Prelude.{Option, Some, None}
use Rattle.defs.specs.Computing.Test.{ask}
use Rattle.pathdefs.specs.Computing.Paths.{bits_at, units_of, acceptedb}
use Rattle.pathdefs.specs.declared.Point.{Point}
use Rattle.pathdefs.specs.declared.Step.{Step}
use Rattle.pathdefs.specs.declared.Step.TheVariants.{Move, Line, Close}
use Rattle.millimetres.specs.Exact.{units_in}
use Rattle.millimetres.proofs.Values.{bits_units}
use Rattle.pathsteps.specs.Found.{float_at, point_at, step_at, vertex_by, vertex_of, vertex_in, kind_of, kind_in, kind_at, vertex_found, VertexStep, vertex_here}

module _ (b : List ℕ) (at : ℕ) where
  pub past_end : length b ≤ at → None ≡ step_at b at
  unfolding step_at
  past_end h = rw (le-ltb at (length b) h)

  module _ (h : at < length b) where
    pub is_close : get_or b at 0 ≡ 3 → Some Close ≡ step_at b at
    unfolding step_at
    is_close e = rw (lt-ltb at (length b) h, eq-eqb (get_or b at 0) 3 e)

    module _ (n3 : get_or b at 0 ≡ 3 → ⊥) where
      pub is_cut : length b - at < 9 → None ≡ step_at b at
      unfolding step_at
      is_cut l = rw (lt-ltb at (length b) h, ne_eqb (get_or b at 0) 3 n3, lt-leb (at + 9) (length b) (omega (arith, l, h)))

      module _ (l : 9 ≤ length b - at) where
        pub is_move : {p : Point} → p ≡ point_at b (at + 1) → get_or b at 0 ≡ 1 → Some (Move p.x p.y) ≡ step_at b at
        unfolding step_at
        is_move e k =
            ap (λ (p : Point). Some (Move p.x p.y)) e ∙
            rw (lt-ltb at (length b) h, ne_eqb (get_or b at 0) 3 n3, le-leb (at + 9) (length b) (omega (arith, l, h)), eq-eqb (get_or b at 0) 1 k)

        module _ (n1 : get_or b at 0 ≡ 1 → ⊥) where
          pub is_line : {p : Point} → p ≡ point_at b (at + 1) → get_or b at 0 ≡ 2 → Some (Line p.x p.y) ≡ step_at b at
          unfolding step_at
          is_line e k =
              ap (λ (p : Point). Some (Line p.x p.y)) e ∙
              rw (lt-ltb at (length b) h, ne_eqb (get_or b at 0) 3 n3, le-leb (at + 9) (length b) (omega (arith, l, h)), ne_eqb (get_or b at 0) 1 n1, eq-eqb (get_or b at 0) 2 k)

          pub is_nothing : (get_or b at 0 ≡ 2 → ⊥) → None ≡ step_at b at
          unfolding step_at
          is_nothing n2 =
              rw (lt-ltb at (length b) h, ne_eqb (get_or b at 0) 3 n3, le-leb (at + 9) (length b) (omega (arith, l, h)), ne_eqb (get_or b at 0) 1 n1, ne_eqb (get_or b at 0) 2 n2)

pub same_point : {x y u v : Float} → x ≡ u → y ≡ v → ◌≡◌ {A = Point} (record { x = x; y = y }) (record { x = u; y = v })
same_point e f = rw (e, f)

module _ (x y : Float) {a b : Option ℕ} (ea : a ≡ units_in x) (eb : b ≡ units_in y) where
  pub both : {k l : ℕ} → a ≡ Some k → b ≡ Some l → Some (k, l) ≡ vertex_of x y
  both e f = sym (ap (λ (u : Option ℕ). vertex_by u (units_in y)) (sym ea ∙ e) ∙ ap (vertex_by (Some _)) (sym eb ∙ f))

  pub not_second : {k : ℕ} → a ≡ Some k → b ≡ None → None ≡ vertex_of x y
  not_second e f = sym (ap (λ (u : Option ℕ). vertex_by u (units_in y)) (sym ea ∙ e) ∙ ap (vertex_by (Some _)) (sym eb ∙ f))

  pub not_first : a ≡ None → None ≡ vertex_of x y
  not_first e = sym (ap (λ (u : Option ℕ). vertex_by u (units_in y)) (sym ea ∙ e))

-- the coordinates of the step with which a part of the path begins
pub bits_drop : (b : List ℕ) (at i j : ℕ) → at + i ≡ j → bits_at b j ≡ bits_at (drop at b) i
bits_drop b at i j e =
    let e0 : j ≡ at + i = sym e in
    let e1 : j + 1 ≡ at + (i + 1) = omega (arith, e) in
    let e2 : j + 2 ≡ at + (i + 2) = omega (arith, e) in
    let e3 : j + 3 ≡ at + (i + 3) = omega (arith, e) in
    rw (e1, e2, e3, e0, get_or-drop at b i 0, get_or-drop at b (i + 1) 0, get_or-drop at b (i + 2) 0, get_or-drop at b (i + 3) 0)

-- accepted or not, by bits
by_bits : (s t : Bool) (k l : ℕ) →
    vertex_by (ask s None (λ _. Some k)) (ask t None (λ _. Some l)) ≡ ask (s && t) None (λ _. Some (k, l))
by_bits true true k l = refl
by_bits true false k l = refl
by_bits false t k l = refl

vertex_bits : (n m : ℕ) → vertex_of (of_bits binary32 n) (of_bits binary32 m) ≡ ask (acceptedb n && acceptedb m) None (λ _. Some ((units_of n), (units_of m)))
vertex_bits n m = rw (bits_units n, bits_units m) (by_bits (acceptedb n) (acceptedb m) (units_of n) (units_of m))

pub vertex_is : (b : List ℕ) (at : ℕ) → VertexStep b at → vertex_found (step_at b at) ≡ vertex_here (drop at b)
unfolding step_at vertex_here
vertex_is b at d =
    let h : at < length b = omega (arith, d.whole) in
    let x : bits_at b (at + 1) ≡ bits_at (drop at b) 1 = bits_drop b at 1 (at + 1) refl in
    let y : bits_at b (at + 1 + 4) ≡ bits_at (drop at b) 5 = bits_drop b at 5 (at + 1 + 4) (omega arith) in
    let v : vertex_of (float_at b (at + 1)) (float_at b (at + 1 + 4)) ≡ vertex_here (drop at b) =
    vertex_bits (bits_at b (at + 1)) (bits_at b (at + 1 + 4)) ∙ rw (x, y) in
    let n3 : get_or b at 0 ≡ 3 → ⊥ = λ e. omega (arith, e, d.most) in
    let l : 9 ≤ length b - at = omega (arith, d.whole) in
    elim (dec_lt (get_or b at 0) 2) [
      | yes k ↦ sym (ap vertex_found (is_move b at h n3 l refl (omega (arith, k, d.least)))) ∙ v
      | no k ↦ sym (ap vertex_found (is_line b at h n3 l (λ e. omega (arith, e, k)) refl (omega (arith, k, d.most)))) ∙ v
    ]

-- what is found of a step, by the step
module _ (b : List ℕ) (at : ℕ) {f : Option Step} (ef : f ≡ step_at b at) where
  pub kind_found : {s : Step} {n : ℕ} → f ≡ Some s → n ≡ kind_of s → n ≡ kind_at b at
  kind_found e h = h ∙ ap kind_in (sym e ∙ ef)

  pub kind_none : f ≡ None → 0 ≡ kind_at b at
  kind_none e = ap kind_in (sym e ∙ ef)

  pub vertex_found_lem : VertexStep b at → {s : Step} {v : Option (ℕ × ℕ)} → f ≡ Some s → v ≡ vertex_in s → v ≡ vertex_here (drop at b)
  vertex_found_lem d e h = h ∙ ap vertex_found (sym e ∙ ef) ∙ vertex_is b at d

  pub vertex_none : VertexStep b at → f ≡ None → None ≡ vertex_here (drop at b)
  vertex_none d e = ap vertex_found (sym e ∙ ef) ∙ vertex_is b at d

-- the byte of a step is its kind, where there is a step
module _ (b : List ℕ) (at : ℕ) where
  pub kind_view : (get_or b at 0 ≡ kind_at b at) ⊎ (kind_at b at ≡ 0)
  kind_view = elim (dec_lt at (length b)) [
    | no h ↦ inr (sym (ap kind_in (past_end b at (omega (arith, h)))))
    | yes h ↦ elim (ℕ_discrete (get_or b at 0) 3) [
      | yes e3 ↦ inl (e3 ∙ ap kind_in (is_close b at h e3))
      | no n3 ↦ elim (dec_lt (length b - at) 9) [
        | yes l ↦ inr (sym (ap kind_in (is_cut b at h n3 l)))
        | no l ↦ elim (ℕ_discrete (get_or b at 0) 1) [
          | yes e1 ↦ inl (e1 ∙ ap kind_in (is_move b at h n3 (omega (arith, l)) refl e1))
          | no n1 ↦ elim (ℕ_discrete (get_or b at 0) 2) [
            | yes e2 ↦ inl (e2 ∙ ap kind_in (is_line b at h n3 (omega (arith, l)) n1 refl e2))
            | no n2 ↦ inr (sym (ap kind_in (is_nothing b at h n3 (omega (arith, l)) n1 n2)))
          ]
        ]
      ]
    ]
  ]

  pub kind_says : {k : ℕ} → 0 < k → kind_at b at ≡ k → get_or b at 0 ≡ k
  kind_says p e = ⊎_elim (λ h. h ∙ e) (λ z. absurd (omega (arith, p, z, e))) kind_view

  pub close_kind : at < length b → get_or b at 0 ≡ 3 → kind_at b at ≡ 3
  close_kind h e = sym (ap kind_in (is_close b at h e))

  module _ (h : at + 9 ≤ length b) where
    pub move_kind : get_or b at 0 ≡ 1 → kind_at b at ≡ 1
    move_kind e = sym (ap kind_in (is_move b at (omega (arith, h)) (λ z. omega (arith, z, e)) (omega (arith, h)) refl e))

    pub line_kind : get_or b at 0 ≡ 2 → kind_at b at ≡ 2
    line_kind e = sym (ap kind_in (is_line b at (omega (arith, h)) (λ z. omega (arith, z, e)) (omega (arith, h)) (λ z. omega (arith, z, e)) refl e))
