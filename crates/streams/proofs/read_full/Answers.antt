-- What a read puts after the bytes so far goes on from them.
use Rattle.std.proofs.Common.{◌≡◌, ℕ, ◌-◌, ◌≤◌, List, ◌++◌, rules, length, take, drop, sym, ap, ◌∙◌, subst, le_refl, drop_at, length-take-le}
use Rattle.std.proofs.lemmas.Slice.{take-put_mid_below}
use Rattle.std.specs.Io.KnownBytes.{Consumes}
use Rattle.std.proofs.KnownBytes.{Consumes-trans}
use borrow.Rule.Slice.PartMut.{put_mid, post_of}
use lib.Seq.{take-add, take-append-le}
use Rattle.streams.proofs.read_full.Goals as goal

-- the first n of the part that was written are the first n after its place
part_of : (a k n : ℕ) (xs ys : List ℕ) → a ≤ length xs → n ≤ length ys → take n (drop a (put_mid a k xs ys)) ≡ take n ys
part_of a k n xs ys within fits =
    let after = post_of a k xs in
    ap (take n) (drop_at (take a xs) (ys ++ after) a (length-take-le a xs within)) ∙ take-append-le n ys after fits

pub loop-done-preserved : goal.loop-done-preserved
loop-done-preserved g c =
    let at = c.loop-done.done in
    let room = length c.loop-done.bytes - at in
    let n = c.in_ok-n.n in
    let new = put_mid at room c.loop-done.bytes c.read.new.buf in
    let within = c.loop-done.invariant.0 in
    let front = take-put_mid_below at room c.loop-done.bytes c.read.new.buf at (le_refl _) within in
    let part = part_of at room n c.loop-done.bytes c.read.new.buf within c.in_ok-n.ensures.bound.0 in
    let joined = take-add at n new in (
      search rules,
      subst (Consumes _ _) (ap (λ l. take at c.loop-done.bytes ++ l) (sym part) ∙ ap (λ l. l ++ take n (drop at new)) (sym front) ∙ sym joined)
          (Consumes-trans _ _ _ _ _ c.loop-done.invariant.1 c.in_ok-n.ensures.bytes.0),
    )
