-- Roots marked one after another.
use Rattle.std.proofs.Common.{◌≡◌, ◌≢◌, ◌⊎◌, ◌↔◌, ◌<◌, ◌+◌, ℕ, length, length-set, Option}
use Rattle.std.proofs.Common.{Some, None, refl, sym, ap, subst, ◌∙◌, inl, inr, arith, Contains, option_map, slice_get}
use Rattle.std.proofs.Common.{◌≤◌, slice_index_or}
use Rattle.std.proofs.Common.{slice_set}
use Rattle.std.proofs.lemmas.Bool.{cases_lt}
use Rattle.std.proofs.lemmas.Bool.Decides.{eqb_tells}
use Rattle.std.proofs.lemmas.Option.{get_or_from_slice_get, slice_get-get_or, slice_get_within}
use Rattle.gz_names.specs.Zones.{HasZone}
use Rattle.gz_names.specs.declared.numbers.Place.{Place}
use Rattle.gz_names.specs.declared.zone_sets.ZoneSet.{ZoneSet}
use Rattle.cell_bits.specs.declared.bits.Bits.{Bits}
use Rattle.gray_lists.proofs.Reading.{slice_get-set_same, slice_get-set_other}
use Rattle.colour_defs.proofs.Lists.{get_contains}
use Rattle.wrappers.proofs.Finding.{slice_get-read}
use Rattle.wrappers.specs.WrapperMaps.{list_of}
use Rattle.wrappers.specs.declared.wrapper_maps.WrapperKey.{WrapperKey}
use Rattle.wrappers.specs.WrapperMaps.{AreApart}
use Rattle.zone_edges.specs.Looks.{AreWrappers, IsWrapperIn, wrapper_at}
use Rattle.zone_edges.proofs.Looking.{entry_at, stands_in, within_list}
use Rattle.mark_stack.specs.Stack.{Piles, IsPushed, no_places}
use Rattle.mark_stack.specs.declared.stack.Pile.TheVariants as pile
use Rattle.mark_stack.proofs.Pushed.{gray_black, more_cases, more_has, more_kept, wake_black}
use Rattle.heap_core.specs.Shape.{Shape, field_at, out_of, zone_of}
use Rattle.heap_core.specs.Heap.{HeapState, colour_of, colour_in, without_delayed}
use Rattle.barriers.specs.Colours.{IsBlack}
use Rattle.heap_core.specs.MarkBits.{SetsBlack, TakesBlack}
use Rattle.barriers.specs.Pending.{pending}
use Rattle.barriers.proofs.BlackClosure.{black_or_not}
use Rattle.barriers.proofs.Places.{same_or_other, same_place}
use Rattle.barriers.proofs.Scans.{no_more_twice, none_more, pushed_black}
use Rattle.barriers.proofs.Slots.{black_now, colour_elsewhere, not_black_bit}
use Rattle.slice_driver.specs.Begins.{IsWithin}
use Rattle.slice_driver.specs.RootMarking.{Blackens, IsHeldBefore, IsNoSource, IsReady, IsTargetAmong, IsTargetBefore}
use Rattle.slice_driver.specs.RootMarking.{IsTargetOf, Marks}
use Rattle.slice_driver.proofs.abstraction.Named.{some_one}

-- nothing turned black
pub marks_still : (P : Place → Type 0) (zones : ZoneSet) (h : HeapState) (p : Piles)
    → ((x : Place) → P x → IsWithin h.shape zones x → IsBlack h x) → Marks P zones h p h p
marks_still P zones h p e = record {
  rest = refl;
  sized = refl;
  black = λ x. ((λ b. inl b), λ o. elim o [ inl b ↦ b | inr w ↦ e x w.0 w.1 ]);
  gray = λ x g. g;
  outside = λ x n. refl;
  pile = λ x. ((λ c. inl c), λ o. elim o [ inl c ↦ c | inr w ↦ absurd (w.1 w.0) ]);
  gray_pile = refl;
  wake_pile = refl;
  scans = none_more h p;
}

-- one condition for another
pub marks_same : (P Q : Place → Type 0) (zones : ZoneSet) (h : HeapState) (p : Piles) (k : HeapState) (q : Piles)
    → ((x : Place) → IsWithin h.shape zones x → P x ↔ Q x) → Marks P zones h p k q → Marks Q zones h p k q
marks_same P Q zones h p k q e m = record {
  rest = m.rest;
  sized = m.sized;
  black = λ x. (
    (λ b. elim ((m.black x).0 b) [ inl was ↦ inl was | inr w ↦ inr ((e x w.1).0 w.0, w.1) ]),
    λ o. (m.black x).1 (elim o [ inl was ↦ inl was | inr w ↦ inr ((e x w.1).1 w.0, w.1) ]),
  );
  gray = m.gray;
  outside = m.outside;
  pile = m.pile;
  gray_pile = m.gray_pile;
  wake_pile = m.wake_pile;
  scans = m.scans;
}

-- what the heap and the stack are by another name
pub marks_seen : (P : Place → Type 0) (zones : ZoneSet) (h : HeapState) (p : Piles) (k l : HeapState) (q r : Piles)
    → l ≡ k → r ≡ q → Marks P zones h p (without_delayed k) (pending k q)
    → Marks P zones h p (without_delayed l) (pending l r)
marks_seen P zones h p k l q r heap stack m =
    subst (λ (x : HeapState). Marks P zones h p (without_delayed x) (pending x r)) (sym heap)
    (subst (λ (x : Piles). Marks P zones h p (without_delayed k) (pending k x)) (sym stack) m)

pub shape_still : (P : Place → Type 0) (zones : ZoneSet) (h : HeapState) (p : Piles) (k : HeapState) (q : Piles)
    → Marks P zones h p k q → k.shape ≡ h.shape
shape_still P zones h p k q m = ap (λ (l : HeapState). l.shape) m.rest

pub ready_still : (P : Place → Type 0) (zones : ZoneSet) (h : HeapState) (p : Piles) (k : HeapState) (q : Piles)
    → IsReady h p → Marks P zones h p k q → IsReady k q
ready_still P zones h p k q r m =
    let shape = shape_still P zones h p k q m in
    record {
      sized = m.sized ∙ (r.sized ∙ ap (λ (s : Shape). length s.arenas) (sym shape));
      kept = λ a. ap (λ (s : Shape). out_of s a) shape ∙ r.kept a;
      piled = λ x c. elim ((m.pile x).0 c) [ inl on ↦ (m.black x).1 (inl (r.piled x on)) | inr now ↦ now.0 ];
    }

-- one marking after another
pub marks_then : (P Q : Place → Type 0) (zones : ZoneSet) (h : HeapState) (p : Piles) (k : HeapState) (q : Piles)
    (l : HeapState) (r : Piles) → Marks P zones h p k q → Marks Q zones k q l r → Marks (λ x. P x ⊎ Q x) zones h p l r
marks_then P Q zones h p k q l r m n =
    let shape = shape_still P zones h p k q m in
    let into : (x : Place) → IsWithin h.shape zones x → IsWithin k.shape zones x =
    λ x w. subst (λ (s : Shape). IsWithin s zones x) (sym shape) w in
    let back : (x : Place) → IsWithin k.shape zones x → IsWithin h.shape zones x =
    λ x w. subst (λ (s : Shape). IsWithin s zones x) shape w in
    let more : (x : Place) → IsBlack k x → IsBlack l x = λ x b. (n.black x).1 (inl b) in
    let first : (x : Place) → IsBlack h x → IsBlack k x = λ x b. (m.black x).1 (inl b) in
    record {
      rest = n.rest ∙ ap (λ (g : HeapState). record g { colours = l.colours }) m.rest;
      sized = n.sized ∙ m.sized;
      black = λ x. (
        (λ b. elim ((n.black x).0 b) [
          | inl was ↦ elim ((m.black x).0 was) [ inl at ↦ inl at | inr w ↦ inr (inl w.0, w.1) ]
          | inr w ↦ inr (inr w.0, back x w.1)
        ]),
        λ o. elim o [
          | inl at ↦ more x (first x at)
          | inr w ↦ elim w.0 [
            | inl here ↦ more x ((m.black x).1 (inr (here, w.1)))
            | inr here ↦ (n.black x).1 (inr (here, into x w.1))
          ]
        ],
      );
      gray = λ x g. m.gray x (n.gray x g);
      outside = λ x out. n.outside x (λ w. out (back x w)) ∙ m.outside x out;
      pile = λ x. (
        (λ c. elim ((n.pile x).0 c) [
          | inl on ↦ elim ((m.pile x).0 on) [ inl at ↦ inl at | inr w ↦ inr (more x w.0, w.1) ]
          | inr w ↦ inr (w.0, λ b. w.1 (first x b))
        ]),
        λ o. (n.pile x).1 (elim o [
          | inl at ↦ inl ((m.pile x).1 (inl at))
          | inr w ↦ elim (black_or_not k x) [
            | inl b ↦ inl ((m.pile x).1 (inr (b, w.1)))
            | inr pale ↦ inr (w.0, pale)
          ]
        ]),
      );
      gray_pile = n.gray_pile ∙ m.gray_pile;
      wake_pile = n.wake_pile ∙ m.wake_pile;
      scans = no_more_twice h p k q l r m.scans n.scans;
    }

-- one cell turned black
module _ (h : HeapState) (p q : Piles) (x : Place) (zones : ZoneSet) (b d : Bits)
    (at : slice_get h.colours x.0 ≡ Some b) (sets : SetsBlack b x.1 d) (within : IsWithin h.shape zones x)
    (more : IsPushed p pile.Black x q) where
  abbrev turned : HeapState
  turned = record h { colours = slice_set h.colours x.0 d }

  there : slice_get turned.colours x.0 ≡ Some d
  there = slice_get-set_same h.colours x.0 d (slice_get_within h.colours x.0 b at)

  other_colour : (y : Place) → y ≢ x → colour_of turned y ≡ colour_of h y
  other_colour y ne = elim (eqb_tells y.0 x.0) [
    | inl same ↦ (
        let now : slice_get turned.colours y.0 ≡ Some d = ap (slice_get turned.colours) same.1 ∙ there in
        let was : slice_get h.colours y.0 ≡ Some b = ap (slice_get h.colours) same.1 ∙ at in
        let slot : y.1 ≢ x.1 = λ e. ne (same_place y x same.1 e) in
        ap (λ o. colour_in o y.1) now ∙ colour_elsewhere b d x.1 y.1 sets slot ∙ sym (ap (λ o. colour_in o y.1) was))
    | inr other ↦ ap (λ o. colour_in o y.1) (slice_get-set_other h.colours x.0 y.0 d other.1)
  ]

  now_black : IsBlack turned x
  now_black = ap (λ o. colour_in o x.1) there ∙ black_now b d x.1 sets

  not_before : IsBlack h x → ⊥
  not_before e = not_black_bit b x.1 sets.was (sym (ap (λ o. colour_in o x.1) at) ∙ e)

  black_at : (y : Place) → y ≡ x → IsBlack turned y
  black_at y e = subst (λ z. IsBlack turned z) (sym e) now_black

  fresh_at : (y : Place) → y ≡ x → IsBlack h y → ⊥
  fresh_at y e was = not_before (subst (λ z. IsBlack h z) e was)

  sized : length turned.colours ≡ length h.colours
  sized = length-set h.colours x.0 d

  pub marks_turned : Marks (λ y. y ≡ x) zones h p turned q
  marks_turned = record {
    rest = refl;
    sized = sized;
    black = λ y. (
      (λ now. elim (same_or_other y x) [
        | inl e ↦ inr (e, subst (λ z. IsWithin h.shape zones z) (sym e) within)
        | inr ne ↦ inl (sym (other_colour y ne) ∙ now)
      ]),
      λ o. elim (same_or_other y x) [
        | inl e ↦ black_at y e
        | inr ne ↦ elim o [ inl was ↦ other_colour y ne ∙ was | inr w ↦ absurd (ne w.0) ]
      ],
    );
    gray = λ y g. elim (same_or_other y x) [
      | inl e ↦ cc (black_at y e, g)
      | inr ne ↦ sym (other_colour y ne) ∙ g
    ];
    outside = λ y out. other_colour y (λ e. out (subst (λ z. IsWithin h.shape zones z) (sym e) within));
    pile = λ y. (
      (λ c. elim (more_cases p.black q.black x y more.more c) [
        | inl on ↦ inl on
        | inr e ↦ inr (black_at y (sym e), fresh_at y (sym e))
      ]),
      λ o. elim o [
        | inl on ↦ more_kept p.black q.black x y more.more on
        | inr w ↦ elim (same_or_other y x) [
          | inl e ↦ subst (λ z. Contains q.black z) (sym e) (more_has p.black q.black x more.more)
          | inr ne ↦ absurd (w.1 (sym (other_colour y ne) ∙ w.0))
        ]
      ],
    );
    gray_pile = more.others pile.Gray gray_black;
    wake_pile = more.others pile.Wake wake_black;
    scans = pushed_black h x turned not_before now_black other_colour p q more;
  }

pub marks_black : (h : HeapState) (p : Piles) (x : Place) (zones : ZoneSet) (k : HeapState) (q : Piles)
    → IsWithin h.shape zones x → Blackens h p x k q → Marks (λ y. y ≡ x) zones h p k q
marks_black h p x zones k q within (inl (b, same, still)) =
    subst (λ k. Marks (λ y. y ≡ x) zones h p k q) (sym same)
    (subst (λ q. Marks (λ y. y ≡ x) zones h p h q) (sym still)
    (marks_still (λ y. y ≡ x) zones h p (λ y e w. subst (λ z. IsBlack h z) (sym e) b)))
marks_black h p x zones k q within (inr (t, more)) =
    subst (λ k. Marks (λ y. y ≡ x) zones h p k q) (sym t.new_is)
    (marks_turned h p q x zones t.before t.after t.found t.sets within more)

-- a number below the next
pub before_or_last : (j i : ℕ) → j < i + 1 → (j < i) ⊎ (j ≡ i)
before_or_last j i lt = elim (cases_lt j i) [ inl less ↦ inl less | inr ge ↦ inr (omega (arith, lt, ge)) ]

-- registers and pinned roots, one after another
module _ (h : HeapState) (zones : ZoneSet) (p : Piles) where
  pub held_first : Marks (IsHeldBefore h.shape 0) zones h p h p
  held_first = marks_still (IsHeldBefore h.shape 0) zones h p (λ x held w. absurd (omega (arith, held.1)))

  pub held_step : (i : ℕ) (x : Place) (k : HeapState) (q : Piles) (l : HeapState) (r : Piles)
      → slice_index_or h.shape.regs i None ≡ Some x → Marks (IsHeldBefore h.shape i) zones h p k q
      → Marks (λ y. y ≡ x) zones k q l r → Marks (IsHeldBefore h.shape (i + 1)) zones h p l r
  held_step i x k q l r at m n = marks_same (λ y. IsHeldBefore h.shape i y ⊎ (y ≡ x)) (IsHeldBefore h.shape (i + 1))
      zones h p l r (λ y w. (
        (λ o. elim o [
          | inl held ↦ (held.0, omega (arith, held.1), held.2)
          | inr e ↦ (i, omega arith, at ∙ ap (λ (z : Place). Some z) (sym e))
        ]),
        λ held. elim (before_or_last held.0 i held.1) [
          | inl less ↦ inl (held.0, less, held.2)
          | inr e ↦ inr (some_one y x (sym held.2 ∙ (ap (λ (j : ℕ). slice_index_or h.shape.regs j None) e ∙ at)))
        ],
      )) (marks_then (IsHeldBefore h.shape i) (λ y. y ≡ x) zones h p k q l r m n)

  pub held_skip : (i : ℕ) (k : HeapState) (q : Piles) → slice_index_or h.shape.regs i None ≡ None
      → Marks (IsHeldBefore h.shape i) zones h p k q → Marks (IsHeldBefore h.shape (i + 1)) zones h p k q
  held_skip i k q at m = marks_same (IsHeldBefore h.shape i) (IsHeldBefore h.shape (i + 1)) zones h p k q (λ y w. (
    (λ held. (held.0, omega (arith, held.1), held.2)),
    λ held. elim (before_or_last held.0 i held.1) [
      | inl less ↦ (held.0, less, held.2)
      | inr e ↦ absurd (
          let same : Some y ≡ None =
          sym held.2 ∙ (ap (λ (j : ℕ). slice_index_or h.shape.regs j None) e ∙ at) in
          cc same)
    ],
  )) m

  -- from a number on none holds a cell
  pub held_all : (n : ℕ) (k : HeapState) (q : Piles)
      → ((i : ℕ) → n ≤ i → slice_index_or h.shape.regs i None ≡ None)
      → Marks (IsHeldBefore h.shape n) zones h p k q → Marks (λ x. Contains h.shape.regs (Some x)) zones h p k q
  held_all n k q none m = marks_same (IsHeldBefore h.shape n) (λ x. Contains h.shape.regs (Some x)) zones h p k q
      (λ y w. (
        (λ held. get_contains h.shape.regs held.0 y held.2),
        λ c.
            let at : slice_index_or h.shape.regs c.0 None ≡ Some y =
            get_or_from_slice_get h.shape.regs c.0 (Some y) None
            (slice_get-read h.shape.regs c.0 (Some y) (Some y) c.1 c.2) in
            elim (cases_lt c.0 n) [
              | inl less ↦ (c.0, less, at)
              | inr ge ↦ absurd (let past = none c.0 ge in cc (past, at))
            ],
      )) m

-- a list that has no element at a number is no longer
pub below_none : (s : Shape) (zone n i : ℕ) (u : Place) → wrapper_at s zone n ≡ None → wrapper_at s zone i ≡ Some u
    → i < n
below_none s zone n i u none some = elim (cases_lt i n) [
  | inl less ↦ less
  | inr ge ↦
      let inside = within_list s zone i u some in
      let entries = list_of s.wrappers zone in
      let there = slice_get-get_or entries n (entry_at s zone i u some).entry (omega (arith, inside, ge)) in
      absurd (cc (sym none ∙ ap (λ o. option_map (λ (e : WrapperKey × Place). e.1) o) there))
]

-- the wrappers of another zone, one after another
module _ (h : HeapState) (zones : ZoneSet) (p : Piles) (zone : ℕ) where
  pub target_step : (HasZone zones.bits zone → ⊥)
      → (i : ℕ) (u : Place) (k : HeapState) (q : Piles) (l : HeapState) (r : Piles) → wrapper_at h.shape zone i ≡ Some u
      → zone_of h.shape u ≡ zone → Marks (IsTargetBefore h zone i) zones h p k q
      → Marks (λ x. IsBlack k u × (field_at k.shape u 0 ≡ Some x)) zones k q l r
      → Marks (IsTargetBefore h zone (i + 1)) zones h p l r
  target_step other i u k q l r at in_zone m n =
      let same : colour_of k u ≡ colour_of h u = m.outside u (λ w. other (subst (λ z. HasZone zones.bits z) in_zone w))
      in
      let shape = shape_still (IsTargetBefore h zone i) zones h p k q m in
      let field : field_at k.shape u 0 ≡ field_at h.shape u 0 = ap (λ (s : Shape). field_at s u 0) shape in
      marks_same (λ x. IsTargetBefore h zone i x ⊎ (IsBlack k u × (field_at k.shape u 0 ≡ Some x)))
      (IsTargetBefore h zone (i + 1)) zones h p l r (λ x w. (
        (λ o. elim o [
          | inl t ↦ (t.0, omega (arith, t.1), t.2, t.3)
          | inr e ↦ (
            i,
            omega arith,
            u,
            record { stands = at; zone_is = in_zone; colour_is = sym same ∙ e.0; target = sym field ∙ e.1 },
          )
        ]),
        λ t. elim (before_or_last t.0 i t.1) [
          | inl less ↦ inl (t.0, less, t.2, t.3)
          | inr e ↦
              let is : t.2 ≡ u = some_one t.2 u (sym t.3.stands ∙ (ap (wrapper_at h.shape zone) e ∙ at)) in
              inr (
                same ∙ (ap (colour_of h) (sym is) ∙ t.3.colour_is),
                field ∙ (ap (λ (v : Place). field_at h.shape v 0) (sym is) ∙ t.3.target),
              )
        ],
      )) (marks_then (IsTargetBefore h zone i) (λ x. IsBlack k u × (field_at k.shape u 0 ≡ Some x)) zones h p k q l r m
      n)

  pub target_all : (n : ℕ) (k : HeapState) (q : Piles) → wrapper_at h.shape zone n ≡ None
      → Marks (IsTargetBefore h zone n) zones h p k q → Marks (IsTargetOf h zone) zones h p k q
  target_all n k q none m = marks_same (IsTargetBefore h zone n) (IsTargetOf h zone) zones h p k q (λ x w. (
    (λ t. (t.0, t.2, t.3)),
    λ t. (t.0, below_none h.shape zone n t.0 t.1 none t.2.stands, t.1, t.2),
  )) m

-- what marking left as it was: the wrapper maps hold wrappers, and an entry stands at its number
module _ (P : Place → Type 0) (zones : ZoneSet) (h : HeapState) (p : Piles) (k : HeapState) (q : Piles)
    (m : Marks P zones h p k q) where
  pub wrappers_still : AreWrappers h.shape → AreWrappers k.shape
  wrappers_still are = subst AreWrappers (sym (shape_still P zones h p k q m)) are

  pub stands_still : (zone i : ℕ) (o : Option Place) → wrapper_at k.shape zone i ≡ o → wrapper_at h.shape zone i ≡ o
  stands_still zone i o at = subst (λ (s : Shape). wrapper_at s zone i ≡ o) (shape_still P zones h p k q m) at

  pub wrapper_still : (zone i : ℕ) (u : Place) → AreWrappers h.shape → AreApart k.shape.wrappers.lists
      → wrapper_at k.shape zone i ≡ Some u → IsWrapperIn k.shape zone u
  wrapper_still zone i u are apart at = stands_in k.shape zone i u (wrappers_still are) apart at

  pub zone_still : (zone i : ℕ) (u : Place) → AreWrappers h.shape → AreApart k.shape.wrappers.lists
      → wrapper_at k.shape zone i ≡ Some u → zone_of h.shape u ≡ zone
  zone_still zone i u are apart at = subst (λ (s : Shape). zone_of s u ≡ zone) (shape_still P zones h p k q m)
      (wrapper_still zone i u are apart at).zone_is

-- the zones, one after another
module _ (h : HeapState) (zones : ZoneSet) (p : Piles) where
  none_from : (i : ℕ) (x : Place) → IsNoSource h.shape zones i → (HasZone zones.bits i → ⊥) → IsWithin h.shape zones x
      → IsTargetOf h i x → ⊥
  none_from i x (inl has) other w of = other has
  none_from i x (inr elsewhere) other w of = elsewhere of.0 of.1 x of.2.stands of.2.target w

  pub among_skip : (i : ℕ) (k : HeapState) (q : Piles) → IsNoSource k.shape zones i
      → Marks (IsTargetAmong h zones i) zones h p k q → Marks (IsTargetAmong h zones (i + 1)) zones h p k q
  among_skip i k q none m =
      let none_then : IsNoSource h.shape zones i =
      subst (λ (s : Shape). IsNoSource s zones i) (shape_still (IsTargetAmong h zones i) zones h p k q m) none in
      marks_same (IsTargetAmong h zones i) (IsTargetAmong h zones (i + 1)) zones h p k q (λ x w. (
        (λ t. (t.0, omega (arith, t.1), t.2, t.3)),
        λ t. elim (before_or_last t.0 i t.1) [
          | inl less ↦ (t.0, less, t.2, t.3)
          | inr e ↦ absurd (none_from i x none_then (subst (λ z. HasZone zones.bits z → ⊥) e t.2) w
              (subst (λ z. IsTargetOf h z x) e t.3))
        ],
      )) m

  pub among_step : (i : ℕ) (k : HeapState) (q : Piles) (l : HeapState) (r : Piles) → (HasZone zones.bits i → ⊥)
      → Marks (IsTargetAmong h zones i) zones h p k q → Marks (IsTargetOf k i) zones k q l r
      → Marks (IsTargetAmong h zones (i + 1)) zones h p l r
  among_step i k q l r other m n =
      let shape = shape_still (IsTargetAmong h zones i) zones h p k q m in
      let colour_same : (u : Place) → zone_of h.shape u ≡ i → colour_of k u ≡ colour_of h u =
      λ u e. m.outside u (λ w. other (subst (λ z. HasZone zones.bits z) e w)) in
      let back : (x : Place) → IsTargetOf k i x → IsTargetOf h i x = λ x t. (
      let zone_is : zone_of h.shape t.1 ≡ i = subst (λ (s : Shape). zone_of s t.1 ≡ i) shape t.2.zone_is in (
        t.0,
        t.1,
        record {
          stands = subst (λ (s : Shape). wrapper_at s i t.0 ≡ Some t.1) shape t.2.stands;
          zone_is = zone_is;
          colour_is = sym (colour_same t.1 zone_is) ∙ t.2.colour_is;
          target = subst (λ (s : Shape). field_at s t.1 0 ≡ Some x) shape t.2.target;
        },
      )) in
      let on : (x : Place) → IsTargetOf h i x → IsTargetOf k i x = λ x t. (
        t.0,
        t.1,
        record {
          stands = subst (λ (s : Shape). wrapper_at s i t.0 ≡ Some t.1) (sym shape) t.2.stands;
          zone_is = subst (λ (s : Shape). zone_of s t.1 ≡ i) (sym shape) t.2.zone_is;
          colour_is = colour_same t.1 t.2.zone_is ∙ t.2.colour_is;
          target = subst (λ (s : Shape). field_at s t.1 0 ≡ Some x) (sym shape) t.2.target;
        },
      ) in
      marks_same (λ x. IsTargetAmong h zones i x ⊎ IsTargetOf k i x) (IsTargetAmong h zones (i + 1)) zones h p l r
      (λ x w. (
        (λ o. elim o [
          | inl t ↦ (t.0, omega (arith, t.1), t.2, t.3)
          | inr t ↦ (i, omega arith, other, back x t)
        ]),
        λ t. elim (before_or_last t.0 i t.1) [
          | inl less ↦ inl (t.0, less, t.2, t.3)
          | inr e ↦ inr (on x (subst (λ z. IsTargetOf h z x) e t.3))
        ],
      )) (marks_then (IsTargetAmong h zones i) (IsTargetOf k i) zones h p k q l r m n)

-- a cell whose black bit was set is pending with it, where it was not pending before
pub blackened_queued : (h k n : HeapState) (p q : Piles) (x : Place) → TakesBlack h x k
    → IsPushed (pending k p) pile.Black x (pending n q) → n ≡ record k { delayed = n.delayed }
    → Blackens (without_delayed h) (pending h p) x (without_delayed n) (pending n q)
blackened_queued h k n p q x t more rest =
    let first : without_delayed k ≡ record h { colours = slice_set h.colours x.0 t.after; delayed = no_places } =
    ap without_delayed t.new_is in
    inr (
      record {
        before = t.before;
        after = t.after;
        found = t.found;
        sets = t.sets;
        new_is = ap without_delayed rest ∙ first;
      },
      subst (λ (z : HeapState). IsPushed (pending z p) pile.Black x (pending n q)) t.new_is more,
    )

-- it was not pending, since it was not black
pub blackened_fresh : (h k : HeapState) (p : Piles) (x : Place) → IsReady (without_delayed h) (pending h p)
    → TakesBlack h x k → Contains (pending k p).black x → ⊥
blackened_fresh h k p x ready t c =
    let was : IsBlack h x =
    ready.piled x (subst (λ (z : HeapState). Contains (pending z p).black x) t.new_is c) in
    not_black_bit t.before x.1 t.sets.was (sym (ap (λ o. colour_in o x.1) t.found) ∙ was)

-- its arena is made
pub blackened_made : (h k : HeapState) (x : Place) → TakesBlack h x k → x.0 < length h.shape.arenas
    → x.0 < length k.shape.arenas
blackened_made h k x t made = subst (λ (z : HeapState). x.0 < length z.shape.arenas) (sym t.new_is) made
