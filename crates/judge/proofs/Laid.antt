-- Each cell lies in the place that it has, and no other cell lies anywhere.
use Rattle.std.proofs.Common.{◌≡◌, ◌∙◌, ◌⊎◌, inl, inr, Bool, true, false, cond, List, Option, Some, None, refl, sym, ap}
use Rattle.std.specs.BTreeMap as tree
use Rattle.std.specs.Map.{lookup}
use Rattle.std.specs.Ordering.{is_eq}
use Rattle.gz_names.specs.declared.names.Name.{Name}
use Rattle.gz_names.specs.declared.numbers.Place.{Place}
use Rattle.plain_graph.specs.Indexed.{order_of}
use Rattle.plain_graph.proofs.Indexes.{order_itself, order_ties}
use Rattle.judge.specs.Cells.{Cells}
use Rattle.judge.specs.Places.{AreLaid, IsEmpty, Lying, place_order}
use Rattle.judge.proofs.Lying.{place_itself, place_ties}

-- where one name, or one place, is written, and elsewhere
cell_at : (old new : Cells) (x y : Name) (o : Option Place) → tree.Updates order_of old new x o
    → ((x ≡ y) × (tree.get order_of new y ≡ o))
    ⊎ ((x ≡ y → ⊥) × (tree.get order_of new y ≡ tree.get order_of old y))
cell_at old new x y o up = go (is_eq (order_of x y)) refl
  where
    go : (b : Bool) → is_eq (order_of x y) ≡ b → ((x ≡ y) × (tree.get order_of new y ≡ o))
        ⊎ ((x ≡ y → ⊥) × (tree.get order_of new y ≡ tree.get order_of old y))
    go true same = inl (order_ties x y same, up.0 y ∙ ap (λ b. cond b o (tree.get order_of old y)) same)
    go false other = inr (
      λ same. (let tied : is_eq (order_of x y) ≡ true = ap (λ (z : Name). is_eq (order_of x z)) (sym same)
          ∙ order_itself x in cc (tied, other)),
      up.2 y other,
    )

pub cell_in : (old new : Lying) (p q : Place) (o : Option Name) → tree.Updates place_order old new p o
    → ((p ≡ q) × (tree.get place_order new q ≡ o))
    ⊎ ((p ≡ q → ⊥) × (tree.get place_order new q ≡ tree.get place_order old q))
cell_in old new p q o up = go (is_eq (place_order p q)) refl
  where
    go : (b : Bool) → is_eq (place_order p q) ≡ b → ((p ≡ q) × (tree.get place_order new q ≡ o))
        ⊎ ((p ≡ q → ⊥) × (tree.get place_order new q ≡ tree.get place_order old q))
    go true same = inl (place_ties p q same, up.0 q ∙ ap (λ b. cond b o (tree.get place_order old q)) same)
    go false other = inr (
      λ same. (let tied : is_eq (place_order p q) ≡ true = ap (λ (r : Place). is_eq (place_order p r)) (sym same)
          ∙ place_itself p in cc (tied, other)),
      up.2 q other,
    )

-- nothing changes
pub same_cells : (places new : Cells) → tree.IsUnchanged places new → (x : Name)
    → tree.get order_of new x ≡ tree.get order_of places x
same_cells places new same x = ap (λ (es : List (Name × Place)). lookup (tree.is_at (order_of x)) es) same

pub same_lying : (lying after : Lying) → tree.IsUnchanged lying after → (p : Place)
    → tree.get place_order after p ≡ tree.get place_order lying p
same_lying lying after same p = ap (λ (es : List (Place × Name)). lookup (tree.is_at (place_order p)) es) same

pub laid_as : (places new : Cells) (lying after : Lying)
    → ((x : Name) → tree.get order_of new x ≡ tree.get order_of places x)
    → ((p : Place) → tree.get place_order after p ≡ tree.get place_order lying p) → AreLaid places lying
    → AreLaid new after
laid_as places new lying after cells at laid = record {
  there = λ x p is un. laid.there x p (sym (cells x) ∙ is) (λ h. un (at p ∙ h));
  back = λ x p is un. laid.back x p (sym (at p) ∙ is) (λ h. un (cells x ∙ h));
}

-- a cell lies in a place in which none lay, and then none lies there
pub lain_undone : (lying mid after : Lying) (p : Place) (x : Name) → IsEmpty lying p
    → tree.Updates place_order lying mid p (Some x) → tree.Updates place_order mid after p None → (q : Place)
    → tree.get place_order after q ≡ tree.get place_order lying q
lain_undone lying mid after p x empty lain undone q = elim (cell_in mid after p q None undone) [
  | inl h ↦ h.1 ∙ sym (ap (tree.get place_order lying) (sym h.0) ∙ empty)
  | inr h ↦ elim (cell_in lying mid p q (Some x) lain) [ inl k ↦ absurd (h.0 k.0) | inr k ↦ h.1 ∙ k.1 ]
]

-- a cell gets a place
pub record IsLain (places new : Cells) (lying after : Lying) (x : Name) (p : Place) : Type 0 where
  pub absent : tree.get order_of places x ≡ None
  pub empty : IsEmpty lying p
  pub put : tree.Updates order_of places new x (Some p)
  pub lain : tree.Updates place_order lying after p (Some x)

pub laid_more : (places new : Cells) (lying after : Lying) (x : Name) (p : Place)
    → IsLain places new lying after x p → AreLaid places lying → AreLaid new after
laid_more places new lying after x p is laid = record {
  there = λ y q at un. elim (cell_at places new x y (Some p) is.put) [
    | inl h ↦
        let same : p ≡ q = (let a = h.1 in cc (a, at)) in
        un (ap (tree.get place_order after) (sym same) ∙ is.lain.1 ∙ ap Some h.0)
    | inr h ↦ laid.there y q (sym h.1 ∙ at) (λ k. elim (cell_in lying after p q (Some x) is.lain) [
      | inl here ↦ (let none = ap (tree.get place_order lying) (sym here.0) ∙ is.empty in cc (none, k))
      | inr elsewhere ↦ un (elsewhere.1 ∙ k)
    ])
  ];
  back = λ y q at un. elim (cell_in lying after p q (Some x) is.lain) [
    | inl h ↦
        let same : x ≡ y = (let a = h.1 in cc (a, at)) in
        un (ap (tree.get order_of new) (sym same) ∙ is.put.1 ∙ ap Some h.0)
    | inr h ↦ laid.back y q (sym h.1 ∙ at) (λ k. elim (cell_at places new x y (Some p) is.put) [
      | inl here ↦ (let none = ap (tree.get order_of places) (sym here.0) ∙ is.absent in cc (none, k))
      | inr elsewhere ↦ un (elsewhere.1 ∙ k)
    ])
  ];
}

-- a cell lies nowhere any more
pub record IsLifted (places new : Cells) (lying after : Lying) (x : Name) (was : Place) : Type 0 where
  pub at : tree.get order_of places x ≡ Some was
  pub taken : tree.Updates order_of places new x None
  pub emptied : tree.Updates place_order lying after was None

pub laid_less : (places new : Cells) (lying after : Lying) (x : Name) (was : Place)
    → IsLifted places new lying after x was → AreLaid places lying → AreLaid new after
laid_less places new lying after x was is laid = record {
  there = λ y q at un. elim (cell_at places new x y None is.taken) [
    | inl h ↦ (let none = h.1 in cc (none, at))
    | inr h ↦ laid.there y q (sym h.1 ∙ at) (λ k. elim (cell_in lying after was q None is.emptied) [
      | inl here ↦ laid.there x was is.at (λ l.
          h.0 (let e : Some x ≡ Some y = sym l ∙ ap (tree.get place_order lying) here.0 ∙ k in cc e))
      | inr elsewhere ↦ un (elsewhere.1 ∙ k)
    ])
  ];
  back = λ y q at un. elim (cell_in lying after was q None is.emptied) [
    | inl h ↦ (let none = h.1 in cc (none, at))
    | inr h ↦ laid.back y q (sym h.1 ∙ at) (λ k. elim (cell_at places new x y None is.taken) [
      | inl here ↦ h.0 (let e : Some was ≡ Some q = sym is.at ∙ ap (tree.get order_of places) here.0 ∙ k in cc e)
      | inr elsewhere ↦ un (elsewhere.1 ∙ k)
    ])
  ];
}

-- a cell that lies in one place goes to another, in which none lies, and then the first one is emptied
pub record IsMoved (places new : Cells) (lying mid after : Lying) (x : Name) (was p : Place) : Type 0 where
  pub at : tree.get order_of places x ≡ Some was
  pub empty : IsEmpty lying p
  pub put : tree.Updates order_of places new x (Some p)
  pub lain : tree.Updates place_order lying mid p (Some x)
  pub emptied : tree.Updates place_order mid after was None

pub laid_moved : (places new : Cells) (lying mid after : Lying) (x : Name) (was p : Place)
    → IsMoved places new lying mid after x was p → AreLaid places lying → AreLaid new after
laid_moved places new lying mid after x was p is laid = record {
  there = λ y q at un. elim (cell_at places new x y (Some p) is.put) [
    | inl h ↦
        let same : p ≡ q = (let a = h.1 in cc (a, at)) in
        elim (cell_in mid after was p None is.emptied) [
          | inl here ↦ laid.there x was is.at (λ l.
              let none = ap (tree.get place_order lying) here.0 ∙ is.empty in cc (none, l))
          | inr off ↦ un (ap (tree.get place_order after) (sym same) ∙ off.1 ∙ is.lain.1 ∙ ap Some h.0)
        ]
    | inr h ↦ laid.there y q (sym h.1 ∙ at) (λ k. elim (cell_in mid after was q None is.emptied) [
      | inl here ↦ laid.there x was is.at (λ l.
          h.0 (let e : Some x ≡ Some y = sym l ∙ ap (tree.get place_order lying) here.0 ∙ k in cc e))
      | inr off ↦ elim (cell_in lying mid p q (Some x) is.lain) [
        | inl here ↦ (let none = ap (tree.get place_order lying) (sym here.0) ∙ is.empty in cc (none, k))
        | inr elsewhere ↦ un (off.1 ∙ elsewhere.1 ∙ k)
      ]
    ])
  ];
  back = λ y q at un. elim (cell_in mid after was q None is.emptied) [
    | inl h ↦ (let none = h.1 in cc (none, at))
    | inr h ↦ elim (cell_in lying mid p q (Some x) is.lain) [
      | inl here ↦
          let same : x ≡ y = (let a = sym here.1 ∙ sym h.1 ∙ at in cc a) in
          un (ap (tree.get order_of new) (sym same) ∙ is.put.1 ∙ ap Some here.0)
      | inr off ↦ laid.back y q (sym off.1 ∙ sym h.1 ∙ at) (λ k. elim (cell_at places new x y (Some p) is.put) [
        | inl one ↦ h.0 (let e : Some was ≡ Some q = sym is.at ∙ ap (tree.get order_of places) one.0 ∙ k in cc e)
        | inr elsewhere ↦ un (elsewhere.1 ∙ k)
      ])
    ]
  ];
}
