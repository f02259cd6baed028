use Rattle.std.proofs.Common.{◌≡◌, ◌<◌, ◌+◌, ◌∙◌, ℕ, List, length, get_or, rules, ap, sym, subst, arith}
use Rattle.std.specs.List.Sorted.{IsSorted}
use Rattle.std.proofs.lemmas.Option.{slice_get-get_or}
use Rattle.gz_names.specs.Order.{name_cmp}
use Rattle.gz_names.specs.declared.names.Name.{Name}
use Rattle.colour_defs.specs.Ends.{Lists}
use Rattle.colour_defs.proofs.Lists.{contains_at}
use Rattle.heap_core.specs.Heap.{HeapState}
use Rattle.slice_driver.specs.Told.{AreTold, IsTold}
use Rattle.slice_driver.proofs.group_end.ToldNames.{told_all, told_more, told_none}
use Rattle.slice_driver.proofs.ends.told_names_in.Goals.{in-Some+in_ok-push_told, in_default}
use Rattle.slice_driver.proofs.ends.told_names_in.Goals as goal

pub loop-index-init : goal.loop-index-init
loop-index-init c = subst (AreTold c.args.heap.now c.args.zones.bits 0) (sym c.new-names.ensures.items)
    (told_none c.args.heap.now c.args.zones.bits)

pub push_told-requires-clause-present : goal.push_told-requires-clause-present
push_told-requires-clause-present c = c.requires.present c.in-Some.place
    (contains_at c.args.heap.now.weak_names.watched c.loop-index.index c.in-Some.place
    (sym c.watched_at.ensures ∙ c.in-Some.is))

pub loop-index-preserved : goal.loop-index-preserved
loop-index-preserved c =
    let h : HeapState = c.args.heap.now in
    elim c.match-watched_at.branch [
      | in-Some+in_ok-push_told w ↦
          subst (AreTold h c.args.zones.bits (c.loop-index.index + 1)) (sym (ap (λ z. z.items) w.names-is))
          (told_more h c.args.zones.bits c.loop-index.index w.in-Some.place (sym c.watched_at.ensures ∙ w.in-Some.is)
          c.loop-index.names.items _
          (record { named = c.requires.apart; once = c.watched_count-index-end.ensures.apart })
          c.loop-index.invariant w.in_ok-push_told.ensures)
      | in_default w ↦ (
          let i : ℕ = c.loop-index.index in
          let below : i < length h.weak_names.watched =
          omega (arith, c.loop-index-test.true, c.watched_count-index-end.ensures.count) in
          absurd (w.in_default.not-Some (get_or h.weak_names.watched i (0, 0))
          (c.watched_at.ensures ∙ slice_get-get_or h.weak_names.watched i (0, 0) below)))
    ]

pub returns : goal.returns
returns c =
    let h : HeapState = c.args.heap.now in
    let end : c.loop-index.index ≡ length h.weak_names.watched =
    omega (arith, c.loop-index-test.false, c.watched_count-index-end.ensures.count, c.loop-index.auto.index-end) in
    let sorted : IsSorted name_cmp c.sort_unstable.new.self.items = search rules in
    subst (λ (xs : List Name). Lists (IsTold h c.args.zones.bits) xs) (sym c.from_vec.ensures)
    (told_all h c.args.zones.bits c.loop-index.names.items c.sort_unstable.new.self.items
    (subst (λ (n : ℕ). AreTold h c.args.zones.bits n c.loop-index.names.items) end c.loop-index.invariant)
    c.sort_unstable.ensures.permutation sorted)
