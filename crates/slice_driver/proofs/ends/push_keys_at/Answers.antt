use Rattle.std.proofs.Common.{◌<◌, ◌+◌, ◌++◌, ◌∷◌, [], ap, sym, subst, refl, arith, w64, List, ◌∙◌}
use Rattle.std.specs.Int.{trailing_zeros}
use Rattle.std.specs.List.Sorted.{IsPermutation}
use Rattle.std.proofs.lemmas.List.Sorted.{IsPermutation-append_left, IsPermutation-trans}
use Rattle.gz_names.specs.declared.names.Name.{Name}
use Rattle.gz_names.specs.declared.numbers.Place.{Place}
use Rattle.heap_core.specs.Shape.{IsPresent, name_at}
use Rattle.slice_driver.specs.Grays.{grays_below}
use Rattle.slice_driver.proofs.group_end.GraySlots.{gray_more, grays_done, next_slot}
use Rattle.slice_driver.proofs.ends.push_keys_at.Goals.{in-Some+in_ok-push, in_default}
use Rattle.slice_driver.proofs.ends.push_keys_at.Goals as goal

pub name-requires : goal.name-requires
name-requires c =
    let l = c.loop-left.invariant in
    let s = next_slot c.args.slots c.loop-left.left l.0 l.1 (omega (arith, c.loop-left-test.true))
    c.loop-left.auto.left-fits.fits in
    subst (λ (p : Place). IsPresent c.args.heap.now.shape p) (sym c.in-Some.ensures.1)
    (c.requires.present _ ((c.requires.gray _ s.below).0 s.set))

pub loop-left-preserved : goal.loop-left-preserved
loop-left-preserved c =
    let l = c.loop-left.invariant in
    let some : 0 < c.loop-left.left = omega (arith, c.loop-left-test.true) in
    let s = next_slot c.args.slots c.loop-left.left l.0 l.1 some c.loop-left.auto.left-fits.fits in
    let before = c.args.keys.now ++ grays_below c.args.heap.now c.args.arena l.0 in (
      trailing_zeros w64 c.loop-left.left + 1,
      s.rest,
      elim c.match-new.branch [
        | in-Some+in_ok-push w ↦ subst (λ (xs : List Name). IsPermutation
            (c.args.keys.now ++ grays_below c.args.heap.now c.args.arena (trailing_zeros w64 c.loop-left.left + 1))
            xs) (sym w.keys-is)
            (subst (λ (xs : List Name). IsPermutation xs w.push.new.self)
            (gray_more c.args.heap.now c.args.arena c.args.slots c.requires.gray before (before ++ w.name.result ∷ [])
            c.args.keys.now c.loop-left.left l.0 w.name.result l.1 some c.loop-left.auto.left-fits.fits refl
            (ap (name_at c.args.heap.now.shape) (sym w.in-Some.ensures.1) ∙ w.name.ensures.value) refl)
            (IsPermutation-trans (before ++ w.name.result ∷ []) (c.loop-left.keys ++ w.name.result ∷ []) w.push.new.self
            (IsPermutation-append_left (w.name.result ∷ []) before c.loop-left.keys l.2) w.in_ok-push.ensures))
        | in_default w ↦ absurd (w.in_default.ensures s.below)
      ],
    )

pub returns : goal.returns
returns c =
    let l = c.loop-left.invariant in
    let before = c.args.keys.now ++ grays_below c.args.heap.now c.args.arena l.0 in
    subst (λ (xs : List Name). IsPermutation xs c.loop-left.keys)
    (grays_done c.args.heap.now c.args.arena c.args.slots c.requires.gray before c.args.keys.now c.loop-left.left l.0
    l.1 c.loop-left-test.false refl) l.2
