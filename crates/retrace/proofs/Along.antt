-- Two edges that share a stretch: products that fit, and the tests taken apart as the code asks them.
-- Assumes nothing.
use mathlib.Core.Path.{◌≡◌, refl, sym, ap, ap₂, ◌∙◌}
use mathlib.Core.Bool.{Bool, true, false, ◌&&◌}
use Prim.Native.Nat.{ℕ, ◌+◌, ◌*◌, ◌-◌, ◌≤◌, ◌<◌, max, min}
use lib.Dec.{ltb, eqb}
use borrow.Author.Tests.{lt-ltb, le-ltb}
use Rattle.defs.specs.Meaning.Outline.{Edge}
use Rattle.checks.specs.Order.{HeightOf}
use Rattle.strokes.specs.Retrace.{rise_alike, level, run_along, stand_along, sharesb}

module _ (e f : Edge) where
  pub alike_is : {v w a b c d : ℕ} → v ≡ e.xr - e.xl → w ≡ f.xr - f.xl → a ≡ e.yl → b ≡ e.yr → c ≡ f.yl → d ≡ f.yr →
      eqb (b * w + c * v) (d * v + a * w) ≡ rise_alike e f
  unfolding rise_alike
  alike_is ev ew ea eb ec ed = rw (ev, ew, ea, eb, ec, ed) refl

  pub level_is : {v w h k x : ℕ} → v ≡ e.xr - e.xl → w ≡ f.xr - f.xl → HeightOf e x h → HeightOf f x k →
      eqb (h * w) (k * v) ≡ level e f x
  unfolding level
  level_is ev ew eh ek = rw (ev, ew, eh.is, ek.is) refl

  -- from and to: where both edges are
  module _ {a b : ℕ} (from : a ≡ max e.xl f.xl) (to : b ≡ min e.xr f.xr) where
    pub run_apart : b ≤ a → false ≡ run_along e f
    unfolding run_along
    run_apart l =
        sym (ap (λ (t : Bool). t && (rise_alike e f && level e f (max e.xl f.xl))) (sym (ap₂ ltb from to) ∙ le-ltb a b l))

    pub run_by : {r : Bool} → a < b → r ≡ rise_alike e f → (r && level e f a) ≡ run_along e f
    unfolding run_along
    run_by l er =
        ap₂ ◌&&◌ er (ap (level e f) from) ∙
        sym (ap (λ (t : Bool). t && (rise_alike e f && level e f (max e.xl f.xl))) (sym (ap₂ ltb from to) ∙ lt-ltb a b l))

    pub run_not : {r : Bool} → a < b → r ≡ rise_alike e f → r ≡ false → false ≡ run_along e f
    run_not l er no_one = sym (ap (λ (t : Bool). t && level e f a) no_one) ∙ run_by l er

    pub run_level : {r t : Bool} → a < b → r ≡ rise_alike e f → r ≡ true → t ≡ level e f a → t ≡ run_along e f
    run_level l er yes-one et = et ∙ sym (ap (λ (t : Bool). t && level e f a) yes-one) ∙ run_by l er

  pub shares_run : {r : Bool} → r ≡ run_along e f → r ≡ true → true ≡ sharesb e f
  unfolding sharesb
  shares_run er h = rw (sym er ∙ h) refl

  pub shares_stand : {r t : Bool} → r ≡ run_along e f → r ≡ false → t ≡ stand_along e f → t ≡ sharesb e f
  unfolding sharesb
  shares_stand er h et = rw (sym er ∙ h) et
