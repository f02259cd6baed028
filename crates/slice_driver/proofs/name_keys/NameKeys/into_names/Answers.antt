use Rattle.std.proofs.Common.{◌∙◌, sym, subst, List}
use Rattle.std.specs.List.Sorted.{IsPermutation, IsSorted}
use Rattle.std.proofs.lemmas.List.Elements.{All-same}
use Rattle.std.proofs.lemmas.List.Sorted.{All-permutation}
use Rattle.std.proofs.lemmas.Result.{IfOk-weaker}
use Rattle.gz_names.specs.Order.{name_cmp}
use Rattle.gz_names.specs.declared.names.Name.{Name}
use Rattle.slice_driver.specs.NameKeys.{IsWrapperKey, names_at}
use Rattle.slice_driver.proofs.group_end.NameKeys.{names_moved, names_sorted, same_names}
use Rattle.slice_driver.proofs.name_keys.NameKeys.into_names.Goals as goal

pub names_of_keys-requires : goal.names_of_keys-requires
names_of_keys-requires c =
    All-same IsWrapperKey c.deref-2.result.now c.sort_unstable-2.new.self.items c.deref-2.ensures.value
    (All-permutation IsWrapperKey c.self.inside.wrappers.items c.sort_unstable-2.new.self.items
    c.sort_unstable-2.ensures.permutation c.self.invariant)

pub returns-clause-permutation : goal.returns-clause-permutation
returns-clause-permutation c =
    let cells = c.sort_unstable.new.self.items in
    let wrappers = c.sort_unstable-2.new.self.items in
    let moved : IsPermutation c.args.self (names_at cells wrappers) =
    subst (λ (xs : List Name). IsPermutation xs (names_at cells wrappers)) c.self.view_is
    (names_moved c.self.inside.cells.items cells c.self.inside.wrappers.items wrappers
    c.sort_unstable.ensures.permutation c.sort_unstable-2.ensures.permutation) in
    IfOk-weaker c.names_of_keys.result _ _
    (λ names is. subst (λ (xs : List Name). IsPermutation c.args.self xs)
    (sym (is ∙ same_names c.deref.result.now cells c.deref-2.result.now wrappers c.deref.ensures.value
    c.deref-2.ensures.value)) moved)
    c.names_of_keys.ensures

pub returns-clause-sorted : goal.returns-clause-sorted
returns-clause-sorted c =
    let cells = c.sort_unstable.new.self.items in
    let wrappers = c.sort_unstable-2.new.self.items in
    IfOk-weaker c.names_of_keys.result _ _
    (λ names is. subst (λ (xs : List Name). IsSorted name_cmp xs)
    (sym (is ∙ same_names c.deref.result.now cells c.deref-2.result.now wrappers c.deref.ensures.value
    c.deref-2.ensures.value))
    (names_sorted cells wrappers c.sort_unstable.ensures.sorted c.sort_unstable-2.ensures.sorted))
    c.names_of_keys.ensures
