-- Commands that wake a cell: one that is found, or one that is made.
use Rattle.std.proofs.Common.{◌≡◌, ◌⊎◌, ◌↔◌, ℕ, Bool, true, false, List, [], ◌∷◌, Option, Some, None, Ok, cond}
use Rattle.std.proofs.Common.{Contains, if◌then◌else◌, refl, sym, ap, subst, ◌∙◌, inl, inr}
use Rattle.std.specs.FinMap as places
use Rattle.std.specs.Ordering.{eq_by_cmp}
use Rattle.gz_names.specs.Order.{name_cmp, names_total}
use Rattle.gz_names.specs.declared.names.Name.{Name}
use Rattle.gz_names.specs.declared.numbers.Place.{Place}
use Rattle.gz_names.specs.declared.commands.GraphCmd.{GraphCmd}
use Rattle.gz_names.specs.declared.replies.Reply.{Reply}
use Rattle.cell_bits.specs.declared.bits.Bits.{Bits}
use Rattle.colour_defs.specs.Step.{step_of}
use Rattle.colour_defs.specs.World as world
use Rattle.colour_defs.specs.Present.{IsPartOf}
use Rattle.colour_defs.specs.World.{World, Collection, Names, Has, HasPlace, IsPlaceFor, IsSettled, marking_of}
use Rattle.colour_defs.specs.World.{with_counts, with_waking, woken_by}
use Rattle.colour_defs.specs.Laws.{IsValid}
use Rattle.colour_defs.proofs.Names.{eq_name-is, eq_name-refl}
use Rattle.heap_core.specs.Shape.{Shape, IsPresent, name_at}
use Rattle.heap_core.specs.Heap.{HeapState}
use Rattle.heap_core.specs.Answers.{DoesStep}
use Rattle.heap_core.proofs.MakingCells.{same-place}
use Rattle.barriers.specs.Reached.{Reached}
use Rattle.barriers.specs.Colours.{IsBlack}
use Rattle.barriers.specs.Exposing.{BlackOr}
use Rattle.barriers.specs.Invariant.{ColourInvariant}
use Rattle.slice_driver.specs.Worlds.{LiesIn, owners_of}
use Rattle.slice_driver.specs.Closures.{AreBlack}
use Rattle.slice_driver.specs.Commands.{ComesTo, DoesInWorld, StayInPlace, Wakes, waking, with_colours}
use Rattle.slice_driver.proofs.basics.NamesWeakly.{names_weakly_on}
use Rattle.slice_driver.proofs.abstraction.Named.{AreSameStarts, name_of, named_present, place_of, present_named}
use Rattle.slice_driver.proofs.abstraction.Named.{same_reached, some_one}
use Rattle.slice_driver.proofs.abstraction.BlackNames.{black_named, black_names, named_black}
use Rattle.slice_driver.proofs.abstraction.Lying.{IsStepIn, command_accepted, lies_from, step_in, woken_in, zone_named}
use Rattle.slice_driver.proofs.commanding.Quiet.{counted_marking, lies_still}
use Rattle.slice_driver.proofs.abstraction.Placing.{place_is_for}

pub woken_marking : (x : Name) (o : Option Collection) → marking_of (with_waking x o) ≡ marking_of o
woken_marking x None = refl
woken_marking x (Some k) = refl

-- the cell p of name x is there afterwards, and all others stay
pub record IsThere (s t : Shape) (p : Place) (x : Name) : Type 0 where
  pub named : name_at t p ≡ Some x
  pub kept : (q : Place) (y : Name) → name_at s q ≡ Some y → name_at t q ≡ Some y
  pub fresh : (q : Place) (y : Name) → name_at t q ≡ Some y → (name_at s q ≡ Some y) ⊎ ((q ≡ p) × (x ≡ y))

-- the world afterwards, but for the black names
abbrev world_after : World → GraphCmd → Name → places.FinMap name_cmp (ℕ × ℕ) → List (Option ℕ) → Names → World
world_after w c x at owner black = record w {
  graph = (step_of w.graph c).0;
  places = at;
  owner = owner;
  black = black;
  collection = with_waking x (with_counts w.graph c w.collection);
}

-- a cell that is made, in a world with the graph after the step
module _ (w : World) (old new : HeapState) (c : GraphCmd) (answer : Reply) (p : Place) (x : Name) (l : LiesIn old w)
  where
    pub there_made : (zone : ℕ) → ComesTo old.shape new.shape zone p x → IsThere old.shape new.shape p x
    there_made zone m = record { named = here; kept = stays; fresh = comes }
      where
        here : name_at new.shape p ≡ Some x
        here = m.names p ∙ elim (same-place p p) [
          | inl e ↦ ap (λ b. if b then Some x else name_at old.shape p) e.1
          | inr n
              ↦ absurd (n.0 refl)
        ]

        stays : (q : Place) (y : Name) → name_at old.shape q ≡ Some y → name_at new.shape q ≡ Some y
        stays q y was = m.names q ∙ elim (same-place q p) [
          | inl e ↦ absurd (m.free (named_present old.shape p y (ap (name_at old.shape) (sym e.0) ∙ was)))
          | inr n ↦ ap (λ b. if b then Some x else name_at old.shape q) n.1 ∙ was
        ]

        comes : (q : Place) (y : Name) → name_at new.shape q ≡ Some y → (name_at old.shape q ≡ Some y)
            ⊎ ((q ≡ p) × (x ≡ y))
        comes q y now = elim (same-place q p) [
          | inl e ↦ inr (
            e.0,
            some_one _ _ (sym (m.names q ∙ ap (λ b. if b then Some x else name_at old.shape q) e.1)
                ∙ now),
          )
          | inr n ↦ inl (sym (m.names q ∙ ap (λ b. if b then Some x else name_at old.shape q) n.1) ∙ now)
        ]

    abbrev pub placed : places.FinMap name_cmp (ℕ × ℕ)
    placed = places.insert w.places x p

    absent_before : IsStepIn w old new c answer l → (zone : ℕ) → ComesTo old.shape new.shape zone p x
        → world.IsPresent w x → ⊥
    absent_before step zone m there =
        let is = there_made zone m in
        let q = place_of old w l x there in
        let same : q.0 ≡ p = step.shown.apart q.0 p x (is.kept q.0 x q.1) is.named in
        m.free (subst (IsPresent old.shape) same (named_present old.shape q.0 x q.1))

    placed_are : IsStepIn w old new c answer l → (zone : ℕ) → ComesTo old.shape new.shape zone p x
        → (y : Name) (q : Place) → (places.get placed y ≡ Some q) ↔ (name_at new.shape q ≡ Some y)
    placed_are step zone m y q = (
      λ e. there (eq_by_cmp name_cmp y x) refl (sym (places.get-insert names_total w.places x p y) ∙ e),
      λ e. places.get-insert names_total w.places x p y ∙ back e (eq_by_cmp name_cmp y x) refl,
    )
      where
        is : IsThere old.shape new.shape p x
        is = there_made zone m

        there : (b : Bool) → eq_by_cmp name_cmp y x ≡ b → cond b (Some p) (places.get w.places y) ≡ Some q
            → name_at new.shape q ≡ Some y
        there true same e = ap (name_at new.shape) (sym (some_one _ _ e))
            ∙ (is.named ∙ ap (λ z. Some z) (sym (eq_name-is y x same)))
        there false other e = is.kept q y ((l.places_are y q).0 e)

        back : name_at new.shape q ≡ Some y → (b : Bool) → eq_by_cmp name_cmp y x ≡ b
            → cond b (Some p) (places.get w.places y) ≡ Some q
        back e true same = ap (λ z. Some z)
            (step.shown.apart p q y (is.named ∙ ap (λ z. Some z) (sym (eq_name-is y x same))) e)
        back e false other = elim (is.fresh q y e) [
          | inl was ↦ (l.places_are y q).1 was
          | inr n ↦ absurd (cc (ap (λ z. eq_by_cmp name_cmp z x) (sym n.1), eq_name-refl x, other))
        ]

    pub lies_made : (v : World) → IsStepIn w old new c answer l → (zone : ℕ) → ComesTo old.shape new.shape zone p x
        → new.weak_names ≡ old.weak_names → v.graph ≡ (step_of w.graph c).0 → v.places ≡ placed
        → v.owner ≡ owners_of new.shape.arenas → v.weak ≡ w.weak → v.out ≡ w.out → v.white ≡ w.white → LiesIn new v
    lies_made v step zone m named graph at owner weak out white =
        lies_from new (step_of l.graph c).0 v step.shown step.well_formed
        (subst (λ g. IsPartOf g (step_of l.graph c).0) (sym graph) step.part) m.whole
        (λ y q. (
          λ e. (placed_are step zone m y q).0 (ap (λ ps. places.get ps y) (sym at) ∙ e),
          λ e. ap (λ ps. places.get ps y) at ∙ (placed_are step zone m y q).1 e,
        ))
        owner
        (names_weakly_on old.shape new.shape (there_made zone m).kept old.weak_names new.weak_names w.weak v.weak named
        weak l.weak_are)
        (out ∙ (l.out_is ∙ sym m.outs))
        (λ y q. (
          λ has. (m.unswept q y).1
              ((l.white_are y q).0 (subst (λ (ws : List (Name × (ℕ × ℕ))). Contains ws (y, q)) white has)),
          λ un. subst (λ (ws : List (Name × (ℕ × ℕ))). Contains ws (y, q)) (sym white)
              ((l.white_are y q).1 ((m.unswept q y).0 un)),
        ))

    -- it has its place in such a world
    pub has_made : (v : World) → IsStepIn w old new c answer l → (zone : ℕ) → ComesTo old.shape new.shape zone p x
        → v.graph ≡ (step_of w.graph c).0 → v.places ≡ placed → v.owner ≡ owners_of new.shape.arenas → v.weak ≡ w.weak
        → v.out ≡ w.out → v.white ≡ w.white → v.preparing ≡ w.preparing → HasPlace w (step_of w.graph c).0 x v
    has_made v step zone m graph at owner weak out white preparing =
        let is = there_made zone m in
        record {
          graph_is = graph;
          found = λ there. absurd (absent_before step zone m there);
          made = λ absent. (
            zone,
            p,
            zone_named new (step_of l.graph c).0 (step_of w.graph c).0 p x step.shown step.part
                is.named ∙ ap (λ z. Some z) m.zone_is,
            subst (λ o. IsPlaceFor w zone p o) (sym owner)
                (place_is_for old w l zone p (owners_of new.shape.arenas) m.below m.place_is m.owners),
            at,
          );
          out_is = out;
          white_is = white;
          weak_is = weak;
          preparing_is = preparing;
        }

-- a heap lies in a valid world in which nothing is marked, and its black cells are the black ones there
pub record IsBlackHere (w : World) (old : HeapState) (ds : List Bits) : Type 0 where
  pub valid : IsValid w
  pub lies : LiesIn old w
  pub colours : ColourInvariant (with_colours old ds)
  pub settled : IsSettled w
  pub black : AreBlack (with_colours old ds) w

-- so black spreads from the same cells as it does there
pub starts_same : (w : World) (old new : HeapState) (ds : List Bits) (p : Place) (x : Name) (v : World)
    → IsBlackHere w old ds → LiesIn new v → IsThere old.shape new.shape p x
    → AreSameStarts new v (BlackOr (with_colours old ds) p) (λ s. Has w.black s ⊎ (x ≡ s))
starts_same w old new ds p x v here lv is = record {
  same = λ q y e. (
    λ s. elim s [
      | inr at ↦ inr (some_one _ _ (sym is.named ∙ (ap (name_at new.shape) (sym at) ∙ e)))
      | inl b ↦ elim (is.fresh q y e) [ inl was ↦ inl ((here.black y q was).1 b) | inr n ↦ inr n.1 ]
    ],
    λ s. elim s [
      | inr same ↦ inr (lv.shown.apart q p x (e ∙ ap (λ z. Some z) (sym same)) is.named)
      | inl has ↦ (let at = place_of old w here.lies y ((here.valid.settled here.settled).present y has) in
          inl (subst (IsBlack (with_colours old ds)) (lv.shown.apart at.0 q y (is.kept at.0 y at.1) e)
          ((here.black y at.0 at.1).0 has)))
    ],
  );
  placed = λ q s. elim s [
    | inl b ↦ (let n = name_of old.shape q (here.colours.seen_present q (inr b)) in
        named_present new.shape q n.0 (is.kept q n.0 n.1))
    | inr at ↦ subst (IsPresent new.shape) (sym at) (named_present new.shape p x is.named)
  ];
  named = λ y s. elim s [
    | inl has ↦ (let at = place_of old w here.lies y ((here.valid.settled here.settled).present y has) in
        present_named new v lv at.0 y (is.kept at.0 y at.1))
    | inr same ↦ subst (world.IsPresent v) same (present_named new v lv p x is.named)
  ];
}

module _ (w : World) (old new : HeapState) (c : GraphCmd) (answer : Reply) (ds es : List Bits) (p : Place) (x : Name)
    (ok : IsValid w) (l : LiesIn old w) (calm : w.preparing ≡ None) (colours : ColourInvariant (with_colours old ds))
    (black : IsSettled w
    → AreBlack (with_colours old ds) w) where
  module _ (at : places.FinMap name_cmp (ℕ × ℕ)) (owner : List (Option ℕ)) (step : IsStepIn w old new c answer l)
      (is : IsThere old.shape new.shape p x) (wakes : woken_by w.graph c ≡ Some x) (lies : (b : Names)
      → LiesIn new (world_after w c x at owner b))
      (has : (b : Names) → HasPlace w (step_of w.graph c).0 x (world_after w c x at owner b)) (spread : IsSettled w
      → (q : Place) → IsBlack (with_colours new es) q ↔ Reached new.shape (BlackOr (with_colours old ds) p) q) where
    does_in : (b : Names)
        → world.Wakes w (with_counts w.graph c w.collection) (marking_of w.collection) (step_of w.graph c).0 x
        (world_after w c x at owner b) → (IsSettled w → AreBlack (with_colours new es) (world_after w c x at owner b))
        → DoesInWorld w c answer new es
    does_in b k blacks = record {
      after = world_after w c x at owner b;
      command = command_accepted w (world_after w c x at owner b) c answer (Some x) calm step.answer_is step.accepted
          wakes (has b, k);
      lies = lies b;
      black = λ settled. blacks
          (record {
            none_marking =
                sym (woken_marking x (with_counts w.graph c w.collection) ∙ counted_marking w c w.collection)
                ∙ settled.none_marking;
            none_preparing = calm;
          });
      out_is = refl;
      preparing_is = refl;
      graph_is = refl;
      collection_is = ap (λ o. waking o (with_counts w.graph c w.collection)) (sym wakes);
    }

    does_settled : IsSettled w → DoesInWorld w c answer new es
    does_settled settled =
        let k : HeapState = with_colours new es in
        let v : World = world_after w c x at owner (black_names k at) in
        let lv : LiesIn new v = lies (black_names k at) in
        let P : Place → Type 0 = BlackOr (with_colours old ds) p in
        let Q : Name → Type 0 = λ s. Has w.black s ⊎ (x ≡ s) in
        let st : AreSameStarts new v P Q = starts_same w old new ds p x v (record {
          valid = ok;
          lies = l;
          colours = colours;
          settled = settled;
          black = black settled;
        }) lv is in
        does_in (black_names k at)
        (subst (λ zs. world.Wakes w (with_counts w.graph c w.collection) zs (step_of w.graph c).0 x v)
        (sym settled.none_marking) (
          refl,
          λ y. (
            λ h. (let b = black_named k at y h in
                let e : name_at new.shape b.0 ≡ Some y = (lv.places_are y b.0).0 b.1 in (
                  (same_reached new v lv P Q st b.0 y e).0 ((spread settled b.0).0 b.2),
                  present_named new v lv b.0 y e,
                )),
            λ r. (let q = place_of new v lv y r.1 in
                named_black k at y q.0 ((lv.places_are y q.0).1 q.1)
                ((spread settled q.0).1 ((same_reached new v lv P Q st q.0 y q.1).1 r.0))),
          ),
        ))
        (λ s y q e. (
          λ h. (let b = black_named k at y h in
              subst (IsBlack k) (lv.shown.apart b.0 q y ((lv.places_are y b.0).0 b.1) e) b.2),
          λ b. named_black k at y q ((lv.places_are y q).1 e) b,
        ))

    does_waking : DoesInWorld w c answer new es
    does_waking = go (marking_of w.collection) refl
      where
        go : (zs : List ℕ) → marking_of w.collection ≡ zs → DoesInWorld w c answer new es
        go [] e = does_settled (record { none_marking = e; none_preparing = calm })
        go (z ∷ zs) e = does_in w.black
            (subst (λ ys. world.Wakes w (with_counts w.graph c w.collection) ys (step_of w.graph c).0 x
            (world_after w c x at owner w.black)) (sym e) (refl, refl))
            (λ settled. absurd (cc (settled.none_marking, e)))

  -- the cell was there
  pub does_found : DoesStep old c (Ok answer) new → StayInPlace old.shape new.shape → new.weak_names ≡ old.weak_names
      → Wakes old c (Some x) → name_at old.shape p ≡ Some x
      → (IsSettled w → (q : Place) → IsBlack (with_colours new es) q
      ↔ Reached new.shape (BlackOr (with_colours old ds) p) q) → DoesInWorld w c answer new es
  does_found does stay named wakes e spread =
      let step = step_in w old new c answer ok l does in
      does_waking w.places w.owner step
      (record {
        named = stay.names p ∙ e;
        kept = λ q y was. stay.names q ∙ was;
        fresh = λ q y now. inl (sym (stay.names q) ∙ now);
      })
      (woken_in w old c (Some x) ok l wakes)
      (λ b. lies_still w (world_after w c x w.places w.owner b) old new c answer l step stay named refl refl refl refl
      refl refl)
      (λ b. record {
        graph_is = refl;
        found = λ there. (refl, refl);
        made = λ absent. absurd (absent (present_named old w l p x e));
        out_is = refl;
        white_is = refl;
        weak_is = refl;
        preparing_is = refl;
      })
      spread

  -- the cell was made
  pub does_made : (zone : ℕ) → DoesStep old c (Ok answer) new → ComesTo old.shape new.shape zone p x
      → new.weak_names ≡ old.weak_names → Wakes old c (Some x)
      → (IsSettled w → (q : Place) → IsBlack (with_colours new es) q
      ↔ Reached new.shape (BlackOr (with_colours old ds) p) q) → DoesInWorld w c answer new es
  does_made zone does m named wakes spread =
      let step = step_in w old new c answer ok l does in
      does_waking (places.insert w.places x p) (owners_of new.shape.arenas) step
      (there_made w old new c answer p x l zone m)
      (woken_in w old c (Some x) ok l wakes)
      (λ b. lies_made w old new c answer p x l
      (world_after w c x (places.insert w.places x p) (owners_of new.shape.arenas) b) step zone m named refl refl refl
      refl refl refl)
      (λ b. has_made w old new c answer p x l
      (world_after w c x (places.insert w.places x p) (owners_of new.shape.arenas) b) step zone m refl refl refl refl
      refl refl refl)
      spread
