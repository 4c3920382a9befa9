-- The tests of questions 1 to 4, 16 and 17, 6 to 9, 15 and of write's 2 decide those questions. 5 is in Complete; a sheet's 6 and 7 are in
-- SheetChains.
-- Assumes nothing.
use mathlib.Core.Path.{◌≡◌, refl, sym, ap, ◌∙◌}
use mathlib.Core.Logic.{◌↔◌}
use mathlib.Core.Bool.{Bool, true, false, ◌&&◌, false≢true}
use mathlib.Core.List.{List, [], ◌∷◌}
use Prim.Native.Nat.{ℕ, zero, suc, ◌≤◌}
use native.Mathlib.Omega.{arith}
use lib.Dec.{leb, eqb, eqb-suc-zero}
use lib.ListN.{length, get_or, take}
use Rattle.defs.specs.Meaning.Limits.{Between, most_coordinate, most_mask, most_turn, most_bytes, most_records, most_width, most_resolution, most_columns, most_gap, least_vertices, most_vertices}
use Rattle.defs.specs.Meaning.Turn.{Allows}
use Rattle.defs.specs.Meaning.Strip.{Limits, Length}
use Rattle.defs.specs.Meaning.Sheet.{Question1, Question2}
use Rattle.defs.specs.Meaning.Question.{Question2Size, Question3, Question16, Question17, Question21, Question4, Question6List, Question7, Question7List, Question8, Question9, Question9Turn, Question15}
use Rattle.defs.specs.Computing.Test.{ask}
use Rattle.defs.specs.Computing.Cells.{allowedb}
use Rattle.defs.specs.Computing.Words.{widthb, resolutionb, columnsb, gapb, limitsb, limits_no, figures_no, records_of, lengthb}
use Rattle.defs.specs.Computing.Calls.{q7b, q8b, q9b}
use Rattle.defs.specs.Computing.Sheets.{q1b, q2b, q6_listb, q7_listb}
use Rattle.laws.proofs.Tests.{Decides, leb_decides, eqb_decides, and_decides, all_decides, decides_by}

between : (least x most : ℕ) → Decides (leb least x && leb x most) (Between least x most)
between least x most =
    decides_by (λ h. record { at_least = h.0; at_most = h.1 }) (λ b. (b.at_least, b.at_most))
    (and_decides (leb_decides least x) (leb_decides x most))

-- the first four of a list are these
four : (b : List ℕ) (w x y z : ℕ) → 4 ≤ length b →
    (take 4 b ≡ w ∷ x ∷ y ∷ z ∷ []) ↔
    (((get_or b 0 0 ≡ w) × (get_or b 1 0 ≡ x)) × ((get_or b 2 0 ≡ y) × (get_or b 3 0 ≡ z)))
four [] w x y z h = absurd (omega arith)
four (a ∷ []) w x y z h = absurd (omega arith)
four (a ∷ (b ∷ [])) w x y z h = absurd (omega arith)
four (a ∷ (b ∷ (c ∷ []))) w x y z h = absurd (omega arith)
four (a ∷ (b ∷ (c ∷ (d ∷ bs)))) w x y z h = (
  λ e. (
    (ap (λ (l : List ℕ). get_or l 0 0) e, ap (λ (l : List ℕ). get_or l 1 0) e),
    (ap (λ (l : List ℕ). get_or l 2 0) e, ap (λ (l : List ℕ). get_or l 3 0) e),
  ),
  λ f. let ea = f.0.0 in let eb = f.0.1 in let ec = f.1.0 in let ed = f.1.1 in cc,
)

pub question_1 : (b : List ℕ) → Decides (q1b b) (Question1 b)
unfolding q1b
question_1 b =
    decides_by
    (λ h. record { long = h.0; begins = (four b 0x4e 0x4a 1 0 (omega (arith, h.0))).1 h.1 })
    (λ q. (q.long, (four b 0x4e 0x4a 1 0 (omega (arith, q.long))).0 q.begins))
    (and_decides (leb_decides 16 (length b))
    (and_decides (and_decides (eqb_decides _ _) (eqb_decides _ _)) (and_decides (eqb_decides _ _) (eqb_decides _ _))))

pub question_2 : (b : List ℕ) → Decides (q2b b) (Question2 b)
unfolding q2b
question_2 b =
    decides_by (λ h. record { fits = h.0; most = h.1 }) (λ q. (q.fits, q.most))
    (and_decides (eqb_decides _ _) (leb_decides _ _))

pub question_2_size : (size : ℕ) → Decides (leb size most_bytes) (Question2Size size)
question_2_size size = leb_decides size most_bytes

pub question_3 : (W : ℕ) → Decides (widthb W) (Question3 W)
unfolding widthb
question_3 W = between 1 W most_width

pub question_16 : (R : ℕ) → Decides (resolutionb R) (Question16 R)
unfolding resolutionb
question_16 R = between 1 R most_resolution

pub question_17 : (N : ℕ) → Decides (columnsb N) (Question17 N)
unfolding columnsb
question_17 N = between 1 N most_columns

pub question_21 : (g : ℕ) → Decides (gapb g) (Question21 g)
unfolding gapb
question_21 g = leb_decides g most_gap

-- the three together are a strip's limits
pub limits_decides : (W R N : ℕ) → Decides (limitsb W R N) (Limits W R N)
unfolding limitsb
limits_decides W R N =
    decides_by (λ h. record { width = h.0; resolution = h.1.0; columns = h.1.1 })
    (λ l. (l.width, (l.resolution, l.columns)))
    (and_decides (question_3 W) (and_decides (question_16 R) (question_17 N)))

-- none of the three gets "no" exactly where the limits are kept
limits_by_number : (W R N : ℕ) → eqb (limits_no W R N) 0 ≡ limitsb W R N
unfolding limitsb limits_no
limits_by_number W R N = go (widthb W) (resolutionb R) (columnsb N)
  where
    go : (w r n : Bool) → eqb (ask w 3 λ _. ask r 16 λ _. ask n 17 λ _. 0) 0 ≡ (w && (r && n))
    go false r n = refl
    go true false n = refl
    go true true false = refl
    go true true true = refl

pub limits_none : (W R N : ℕ) → (limits_no W R N ≡ 0) ↔ Limits W R N
limits_none W R N =
    let by = limits_by_number W R N in
    let kept = limits_decides W R N in
    let zero = eqb_decides (limits_no W R N) 0 in
    (λ e. kept.0 (sym by ∙ zero.1 e), λ l. zero.0 (by ∙ kept.1 l))

-- 3, 16, 17 and 21
pub figures_none : (W R N g : ℕ) → (figures_no W R N g ≡ 0) ↔ (Limits W R N × Question21 g)
unfolding figures_no
figures_none W R N g = go (limits_no W R N) refl (gapb g) refl
  where
    go : (n : ℕ) → limits_no W R N ≡ n → (b : Bool) → gapb g ≡ b →
        (◌≡◌ {A = ℕ} (ask (eqb n 0) n λ _. ask b 21 λ _. 0) 0) ↔ (Limits W R N × Question21 g)
    go zero e true f = (λ z. ((limits_none W R N).0 e, (question_21 g).0 f), λ h. refl)
    go zero e false f = (λ z. absurd (omega arith), λ h. absurd (false≢true (sym f ∙ (question_21 g).1 h.1)))
    go (suc n) e b f =
        rw (eqb-suc-zero n) (λ z. absurd (omega arith), λ h. absurd (omega (arith, (limits_none W R N).1 h.0)))

-- the number of records is the only one that a strip's length fits
pub records_are : (N Q words : ℕ) → Length N Q words → records_of N words ≡ Q
unfolding records_of
records_are N Q words l = omega (arith, l.words_are)

pub length_decides : (N words : ℕ) → Decides (lengthb N words) (Length N (records_of N words) words)
unfolding lengthb
length_decides N words =
    decides_by (λ h. record { records = h.0; words_are = h.1 }) (λ l. (l.records, l.words_are))
    (and_decides (between 1 (records_of N words) most_records) (eqb_decides _ _))

pub question_4 : (N words : ℕ) → Decides (lengthb N words) (Question4 N words)
unfolding Question4
question_4 N words =
    decides_by (λ l. (records_of N words, l)) (λ q. rw (records_are N q.0 words q.1) q.1) (length_decides N words)

pub question_6_list : (ws : List ℕ) → Decides (q6_listb ws) (Question6List ws)
unfolding q6_listb
question_6_list ws =
    decides_by (λ h. record { count_word = h.0; most = h.1 }) (λ q. (q.count_word, q.most))
    (and_decides (leb_decides _ _) (leb_decides _ _))

pub question_7_list : (ws : List ℕ) → Decides (q7_listb ws) (Question7List ws)
unfolding q7_listb
question_7_list ws =
    decides_by (λ h. record { count = h.0; complete = h.1 }) (λ q. (q.count, q.complete))
    (and_decides (between least_vertices (get_or ws 0 0) most_vertices) (leb_decides _ _))

pub question_7 : (o : List ℕ) → Decides (q7b o) (Question7 o)
unfolding q7b
question_7 o =
    decides_by (λ h. record { even = h.0; words = h.1 }) (λ q. (q.even, q.words))
    (and_decides (eqb_decides _ _) (between 6 (length o) 128))

pub question_8 : (o : List ℕ) → Decides (q8b o) (Question8 o)
unfolding q8b Question8
question_8 o = all_decides (λ x. leb x most_coordinate) (λ x. x ≤ most_coordinate) (λ x. leb_decides x most_coordinate) o

pub question_9 : (mask : ℕ) → Decides (q9b mask) (Question9 mask)
unfolding q9b
question_9 mask = between 1 mask most_mask

pub question_9_turn : (t : ℕ) → Decides (leb t most_turn) (Question9Turn t)
question_9_turn t = leb_decides t most_turn

pub question_15 : (output room : ℕ) → Decides (leb output room) (Question15 output room)
question_15 output room = leb_decides output room

-- which turns a mask allows
pub allowed : (mask t : ℕ) → t ≤ most_turn → Decides (allowedb mask t) (Allows mask t)
unfolding allowedb
allowed mask t h = decides_by (λ e. record { turn = h; bit = e }) (λ a. a.bit) (eqb_decides _ _)
