-- What moves need, and which wrappers lead into a zone, by what the heap shows.
use Rattle.std.proofs.Common.{◌≡◌, ◌==◌, ◌≢◌, ◌⊎◌, ◌<◌, ◌≤◌, ◌&&◌, ◌∷◌, ℕ, zero, suc, Bool, true, false, List, []}
use Rattle.std.proofs.Common.{length}
use Rattle.std.proofs.Common.{Contains, inl, inr, slice_set}
use Rattle.std.proofs.Common.{Option, Some, None, IsSome, is_some, nat_lt, option_map, slice_get, get_or, if◌then◌else◌}
use Rattle.std.proofs.Common.{refl, sym, ◌∙◌, ap, subst, eq-eqb, eqb-true, arith}
use Rattle.std.proofs.lemmas.Bool.{false≢true}
use Rattle.std.proofs.lemmas.List.{length-map}
use Rattle.std.proofs.lemmas.Option.{none-some, same_Some}
use Rattle.gz_names.specs.Moves.{AreInOrder, IsGoal, moved}
use Rattle.gz_names.specs.declared.commands.Kind.TheVariants as kind
use Rattle.gz_names.specs.declared.moves.Move.{Move}
use Rattle.gz_names.specs.declared.names.Name.{Name}
use Rattle.gz_names.specs.declared.names.Name.TheVariants.{Cell, Wrap}
use Rattle.gz_names.specs.declared.numbers.CompNo.{CompNo}
use Rattle.gz_names.specs.declared.numbers.Place.{Place}
use Rattle.gz_names.specs.declared.zone_sets.ZoneSet.{ZoneSet}
use Rattle.gz_names.proofs.Moving.{contained, moved-cases}
use Rattle.arena_table.specs.Cells.{CellState, joined}
use Rattle.arena_table.specs.Indexed.{is_owned}
use Rattle.arena_table.specs.Moving.{MayMove, owner_of}
use Rattle.arena_table.specs.Slots.{Arena, cell_at, is_out_at}
use Rattle.wrappers.specs.TargetZones.{IsNoted}
use Rattle.wrappers.specs.WrapperMaps.{AreApart, all_forwarded, list_at, list_of}
use Rattle.wrappers.specs.declared.wrapper_maps.WrapperKey.{WrapperKey}
use Rattle.wrappers.proofs.Finding.{found-there}
use Rattle.weak_maps.specs.WeakMaps as weak
use Rattle.colour_defs.specs.Graph.{GraphState}
use Rattle.heap_core.specs.Heap.{HeapState, bits_of}
use Rattle.heap_core.specs.Moving.{AreCarried, IsListedIn, LeadsInto, MayRelocate, listed_at, wrappers_forwarded}
use Rattle.heap_core.specs.Shape.{IsPresent, Shape, arena_shape, arena_shapes, cell_of, field_in, out_in, out_of}
use Rattle.heap_core.specs.Shape.{zone_of}
use Rattle.heap_core.specs.Shows.{IsWrapperOf, StandsFor, is_wrapper}
use Rattle.heap_core.specs.TargetZones.{AreTargetsNoted}
use Rattle.heap_core.proofs.Carrying.{NamesLeft}
use Rattle.heap_core.proofs.MakingCells.{cells-seen, visible, zone_at}
use Rattle.heap_core.proofs.NotedTargets.{owner-seen}
use Rattle.heap_core.proofs.Relocated.{joined-at, place-in}
use Rattle.heap_core.proofs.Views.{is_out-seen}

-- an arena's owner and whether it is one of a zone, by its zone
owner-at : (xs : List Arena) (a : ℕ) → a < length xs
    → owner_of (slice_get xs a) ≡ (if nat_lt (zone_at xs a) 64 then Some (zone_at xs a) else None)
owner-at [] a lt = absurd (omega (arith, lt))
owner-at (x ∷ xs) zero lt = refl
owner-at (x ∷ xs) (suc a) lt = owner-at xs a (omega (arith, lt))

owned-at : (xs : List Arena) (a zone : ℕ) → a < length xs → zone_at xs a ≡ zone
    → is_owned zone (slice_get xs a) ≡ true
owned-at [] a zone lt is = absurd (omega (arith, lt))
owned-at (x ∷ xs) zero zone lt is = eq-eqb x.zone zone is
owned-at (x ∷ xs) (suc a) zone lt is = owned-at xs a zone (omega (arith, lt)) is

zone-other : (xs : List Arena) (a zone : ℕ) → a < length xs → is_owned zone (slice_get xs a) ≡ false
    → zone_at xs a ≢ zone
zone-other xs a zone lt out is = false≢true (sym out ∙ owned-at xs a zone lt is)

-- a cell stands in an arena
within-cell : (xs : List Arena) (p : Place) → IsSome (cell_at xs p) → p.0 < length xs
within-cell xs (a, k) held = by xs a held
  where
    by : (ys : List Arena) (b : ℕ) → IsSome (cell_at ys (b, k)) → b < length ys
    by [] b held = absurd (cc held)
    by (y ∷ ys) zero held = omega arith
    by (y ∷ ys) (suc b) held = (let rest = by ys b held in omega (arith, rest))

-- no arena is out
module _ (s : Shape) (xs : List Arena) (seen : s.arenas ≡ arena_shapes xs) (kept : (a : ℕ) → out_of s a ≡ None) where
  pub seen-kept : (p : Place) → cell_of s p ≡ cell_at xs p
  seen-kept p = cells-seen s xs p seen
      ∙ ap (λ o. visible o p.1 (cell_at xs p)) (ap (λ ss. out_in (slice_get ss p.0)) (sym seen) ∙ kept p.0)

  pub is-kept : (a : ℕ) → is_out_at xs a ≡ false
  is-kept a = is_out-seen xs a ∙ ap is_some (ap (λ ss. out_in (slice_get ss a)) (sym seen) ∙ kept a)

  pub zone-seen : (p : Place) → zone_of s p ≡ zone_at xs p.0
  zone-seen p = ap (λ ss. zone_of (record s { arenas = ss }) p) seen

  within-seen : (a : ℕ) → a < length s.arenas → a < length xs
  within-seen a lt = (let same = ap length seen in let long = length-map xs arena_shape in
      omega (arith, lt, same, long))

  module _ (zone : ℕ) (moves : List Move) (are : AreCarried s zone moves) where
    stands : (m : Move) → Contains moves m → IsSome (cell_at xs m.from)
    stands m has = subst IsSome (seen-kept m.from) (are.from m has).0

    free-there : (p : Place) → IsGoal moves p → IsSome (cell_at xs p) → ⊥
    free-there p (m, has, is) held =
        none-held (cell_of s p) (ap (cell_of s) (sym is) ∙ are.free m has) (subst IsSome (sym (seen-kept p)) held)
      where
        none-held : (o : Option CellState) → o ≡ None → IsSome o → ⊥
        none-held None e held = cc held
        none-held (Some cell) e held = none-some cell (sym e)

    pub may-move : MayMove xs moves
    may-move = record {
      cells = stands;
      zones = λ m has.
          owner-at xs m.to.0 (within-seen m.to.0 (are.made m has).0)
          ∙ ap (λ z. if nat_lt z 64 then Some z else None)
          (sym (zone-seen m.to) ∙ (are.made m has).1 ∙ sym (are.from m has).1 ∙ zone-seen m.from)
          ∙ sym (owner-at xs m.from.0 (within-cell xs m.from (stands m has)));
      made = λ m has. within-seen m.to.0 (are.made m has).0;
      kept = λ m has. (is-kept m.from.0, is-kept m.to.0);
      apart = record {
        apart = are.apart;
        free = λ p held goal. free-there p goal held;
        clear = λ p left goal. free-there p goal
            (subst (λ q. IsSome (cell_at xs q)) left.2 (stands left.0 left.1));
      };
    }

    pub all-mine : (m : Move) → Contains moves m → (is_owned zone (slice_get xs m.from.0) ≡ true)
        × (is_owned zone (slice_get xs m.to.0) ≡ true)
    all-mine m has = (
      owned-at xs m.from.0 zone (within-cell xs m.from (stands m has)) (sym (zone-seen m.from) ∙ (are.from m has).1),
      owned-at xs m.to.0 zone (within-seen m.to.0 (are.made m has).0) (sym (zone-seen m.to) ∙ (are.made m has).1),
    )

-- where a wrapper was listed that is listed when those of a zone have gone
record WasListed (lists : List (List (WrapperKey × Place))) (zone z : ℕ) (moves : List Move) (p : Place) : Type 0 where
  entry : WrapperKey × Place
  listed : Contains (list_at lists z) entry
  went : ((z ≡ zone) × (moved moves entry.1 ≡ p)) ⊎ ((z ≢ zone) × (entry.1 ≡ p))

Contains-first : {X : Type 0} (x : X) (xs : List X) → Contains (x ∷ xs) x
Contains-first x xs = (zero, omega arith, refl)

Contains-later : {X : Type 0} (y : X) (xs : List X) (x : X) → Contains xs x → Contains (y ∷ xs) x
Contains-later y xs x has = (suc has.0, (let lt = has.1 in omega (arith, lt)), has.2)

entry-at : (es : List (WrapperKey × Place)) (k : ℕ) (p : Place)
    → option_map (λ (e : WrapperKey × Place). e.1) (slice_get es k) ≡ Some p
    → (e : WrapperKey × Place) × Contains es e × (e.1 ≡ p)
entry-at [] k p at = absurd (none-some p at)
entry-at (e ∷ es) zero p at = (e, Contains-first e es, same_Some e.1 p at)
entry-at (e ∷ es) (suc k) p at =
    (let rest = entry-at es k p at in (rest.0, Contains-later e es rest.0 rest.1, rest.2))

entry-gone : (moves : List Move) (es : List (WrapperKey × Place)) (k : ℕ) (p : Place)
    → option_map (λ (e : WrapperKey × Place). e.1) (slice_get (all_forwarded moves es) k) ≡ Some p
    → (e : WrapperKey × Place) × Contains es e × (moved moves e.1 ≡ p)
entry-gone moves [] k p at = absurd (none-some p at)
entry-gone moves (e ∷ es) zero p at = (e, Contains-first e es, same_Some (moved moves e.1) p at)
entry-gone moves (e ∷ es) (suc k) p at =
    (let rest = entry-gone moves es k p at in (rest.0, Contains-later e es rest.0 rest.1, rest.2))

was-listed : (lists : List (List (WrapperKey × Place))) (zone z k : ℕ) (moves : List Move) (p : Place)
    → option_map (λ (e : WrapperKey × Place). e.1)
    (slice_get (list_at (slice_set lists zone (all_forwarded moves (list_at lists zone))) z) k) ≡ Some p
    → WasListed lists zone z moves p
was-listed [] zone z k moves p at = absurd (none-some p at)
was-listed (es ∷ lists) zero zero k moves p at =
    let e = entry-gone moves es k p at in
    record { entry = e.0; listed = e.1; went = inl (refl, e.2) }
was-listed (es ∷ lists) zero (suc z) k moves p at =
    let e = entry-at (list_at lists z) k p at in
    record { entry = e.0; listed = e.1; went = inr ((λ same. (let no : suc z ≡ 0 = same in omega (arith, no))), e.2) }
was-listed (es ∷ lists) (suc zone) zero k moves p at =
    let e = entry-at es k p at in
    record {
      entry = e.0;
      listed = e.1;
      went = inr (
        (λ same. (let no : 0 ≡ suc zone = same in omega
            (arith, no))),
        e.2,
      );
    }
was-listed (es ∷ lists) (suc zone) (suc z) k moves p at =
    let rest = was-listed lists zone z k moves p at in
    record {
      entry = rest.entry;
      listed = rest.listed;
      went = elim rest.went [
        | inl here ↦ inl (ap suc here.0, here.1)
        | inr there ↦ inr ((λ same. there.0 (let no : suc z ≡ suc zone = same in omega (arith, no))), there.1)
      ];
    }

-- the lists of the other zones stay
list-other : (lists : List (List (WrapperKey × Place))) (zone z : ℕ) (es : List (WrapperKey × Place)) → z ≢ zone
    → list_at (slice_set lists zone es) z ≡ list_at lists z
list-other [] zone z es other = refl
list-other (ds ∷ lists) zero zero es other = absurd (other refl)
list-other (ds ∷ lists) zero (suc z) es other = refl
list-other (ds ∷ lists) (suc zone) zero es other = refl
list-other (ds ∷ lists) (suc zone) (suc z) es other = list-other lists zone z es (λ same. other (ap suc same))

-- a heap from which cells of a zone are carried where moves take them, and its arenas
pub record IsCarried (h : HeapState) (xs : List Arena) (zone : ℕ) (moves : List Move) : Type 0 where
  pub seen : h.shape.arenas ≡ arena_shapes xs
  pub coloured : h.colours ≡ bits_of xs
  pub may : MayRelocate h
  pub are : AreCarried h.shape zone moves
  pub order : AreInOrder moves
  pub entries : weak.IsSound h.shape.weak
  pub few : length h.shape.states ≤ 64
  pub apart : AreApart h.shape.wrappers.lists

-- what is asked of a heap and of moves, and what always holds of these
pub record MayCarry (h : HeapState) (zone : ℕ) (moves : List Move) : Type 0 where
  pub may : MayRelocate h
  pub are : AreCarried h.shape zone moves
  pub order : AreInOrder moves
  pub entries : weak.IsSound h.shape.weak
  pub few : length h.shape.states ≤ 64
  pub apart : AreApart h.shape.wrappers.lists

pub carried-by : (h b : HeapState) (xs : List Arena) (zone : ℕ) (moves : List Move) → b ≡ h
    → b.shape.arenas ≡ arena_shapes xs → b.colours ≡ bits_of xs → MayCarry h zone moves → IsCarried h xs zone moves
carried-by h b xs zone moves is seen coloured c = record {
  seen = ap (λ (x : HeapState). x.shape.arenas) (sym is) ∙ seen;
  coloured = ap (λ (x : HeapState). x.colours) (sym is) ∙ coloured;
  may = c.may;
  are = c.are;
  order = c.order;
  entries = c.entries;
  few = c.few;
  apart = c.apart;
}

module _ (h : HeapState) (xs : List Arena) (zone : ℕ) (moves : List Move) (c : IsCarried h xs zone moves) where
  abbrev pub g : GraphState
  g = c.may.sound.0

  -- a listed wrapper stands in its zone
  pub listed-stands : (z : ℕ) (e : WrapperKey × Place) → Contains (list_of h.shape.wrappers z) e
      → IsPresent h.shape e.1 × (zone_of h.shape e.1 ≡ z)
  listed-stands z e has =
      let comp : CompNo = record { 0 = e.0.comp } in
      let home = c.may.sound.1.maps_at_home z e has in
      let name = c.may.sound.1.mapped comp e.0.target e.1 (found-there h.shape.wrappers.lists z e c.apart has) in
      by comp e.0.target home (cell_of h.shape e.1) refl name
    where
      by : (comp : CompNo) (t : ℕ) → slice_get h.shape.comps comp.0 ≡ Some z → (o : Option CellState)
          → cell_of h.shape e.1 ≡ o → option_map (λ (cell : CellState). cell.name) o ≡ Some (Wrap comp t)
          → IsPresent h.shape e.1 × (zone_of h.shape e.1 ≡ z)
      by comp t home None at name = absurd (none-some (Wrap comp t) name)
      by comp t home (Some cell) at name =
          let shown = c.may.sound.1.cells e.1 cell at in
          let wraps : IsWrapperOf h.shape g e.1 cell comp t =
          subst (StandsFor h.shape g e.1 cell) (same_Some cell.name (Wrap comp t) name) shown.stands in
          let zone_is : Some (zone_of h.shape e.1) ≡ Some z =
          sym shown.at_home ∙ ap (λ (d : CompNo). slice_get h.shape.comps d.0) wraps.comp_is ∙ home in
          (subst IsSome (sym at) cc, same_Some (zone_of h.shape e.1) z zone_is)

  kind-of : (p : Place) (cell : CellState) → cell_of h.shape p ≡ Some cell
      → option_map (λ (c : CellState). c.kind) (cell_of h.shape p) ≡ Some kind.Wrapper → cell.kind ≡ kind.Wrapper
  kind-of p cell at is = same_Some cell.kind kind.Wrapper
      (ap (option_map (λ (c : CellState). c.kind)) (sym at) ∙ is)

  only-one : (target q : Place) → Contains (Some target ∷ []) (Some q) → q ≡ target
  only-one target q (zero, lt, at) = sym (same_Some target q at)
  only-one target q (suc k, lt, at) = absurd (omega (arith, lt))

  listed-in : (p : Place) (comp : CompNo) (t : ℕ) (cell : CellState) → cell_of h.shape p ≡ Some cell
      → IsWrapperOf h.shape g p cell comp t → IsListedIn h.shape.wrappers (zone_of h.shape p) p
  listed-in p comp t cell at wraps =
      let found = place-in (λ q. q) comp.0 t h.shape.wrappers.lists p wraps.mapped in
      let key : comp.0 ≡ found.1.0.comp = eqb-true comp.0 found.1.0.comp (both (comp.0 == found.1.0.comp)
      (t == found.1.0.target) found.3) in
      let home : slice_get h.shape.comps comp.0 ≡ Some (zone_of h.shape p) =
      ap (λ (d : CompNo). slice_get h.shape.comps d.0) (sym wraps.comp_is) ∙ (c.may.sound.1.cells p cell at).at_home in
      let same : found.0 ≡ zone_of h.shape p = same_Some found.0 (zone_of h.shape p)
      (sym (c.may.sound.1.maps_at_home found.0 found.1 found.2) ∙ ap (slice_get h.shape.comps) (sym key) ∙ home) in
      subst (λ z. IsListedIn h.shape.wrappers z p) same (record {
        index = found.2.0;
        listed = index-at (list_of h.shape.wrappers found.0) found.2.0 found.1 found.2.1 found.2.2
            ∙ ap Some found.4;
      })
    where
      both : (a b : Bool) → (a && b) ≡ true → a ≡ true
      both true b e = refl
      both false b e = absurd (false≢true e)

      index-at : (es : List (WrapperKey × Place)) (k : ℕ) (e : WrapperKey × Place) → k < length es → get_or es k e ≡ e
          → option_map (λ (d : WrapperKey × Place). d.1) (slice_get es k) ≡ Some e.1
      index-at [] k e lt is = absurd (omega (arith, lt))
      index-at (d ∷ es) zero e lt is = ap (λ (f : WrapperKey × Place). Some f.1) is
      index-at (d ∷ es) (suc k) e lt is = index-at es k e (omega (arith, lt)) is

  -- a cell of another zone that names a cell of this one is a listed wrapper, and the zone is noted for its own
  module _ (noted : List ZoneSet) (are_noted : AreTargetsNoted xs noted) where
    leads-by : (p q : Place) (cell : CellState) → cell_of h.shape p ≡ Some cell → zone_of h.shape p ≢ zone
        → zone_of h.shape q ≡ zone → Contains cell.fields (Some q) → cell.kind ≡ kind.Wrapper → (x : Name)
        → StandsFor h.shape g p cell x → LeadsInto h.shape.wrappers noted zone p
    leads-by p q cell at other mine has is (Cell n) stands = absurd (wraps cell.kind is stands.0)
      where
        wraps : (k : _) → k ≡ kind.Wrapper → is_wrapper k ≡ false → ⊥
        wraps k e out = false≢true (sym out ∙ ap is_wrapper e)
    leads-by p q cell at other mine has is (Wrap comp t) wraps =
        let target : q ≡ wraps.target = only-one wraps.target q
        (subst (λ fields. Contains fields (Some q)) wraps.fields_is has) in
        let stands : cell_at xs p ≡ Some cell = sym (seen-kept h.shape xs c.seen c.may.kept p) ∙ at in
        let noted-so = are_noted.targets p wraps.target cell stands (record {
          kind_is = wraps.kind_is;
          target_is = ap (λ fields. joined (slice_get fields 0)) wraps.fields_is;
        }) in
        let from : noted-so.from ≡ zone_of h.shape p =
        sym (owner-seen xs p.0 noted-so.from noted-so.from_is) ∙ sym (zone-seen h.shape xs c.seen c.may.kept p) in
        let to : noted-so.to ≡ zone =
        sym (owner-seen xs wraps.target.0 noted-so.to noted-so.to_is)
        ∙ sym (zone-seen h.shape xs c.seen c.may.kept wraps.target) ∙ ap (zone_of h.shape) (sym target) ∙ mine in
        record {
          from = zone_of h.shape p;
          below = (let made = c.may.made p (subst IsSome (sym at) cc) in let few = c.few in omega (arith, made, few));
          other = other;
          is_noted = subst (λ z. IsNoted noted z zone) from (subst (λ z. IsNoted noted noted-so.from z) to
              noted-so.is_noted);
          listed = listed-in p comp t cell at wraps;
        }

    -- so it is by the lists of the wrappers when those of the zone have gone
    pub leads : (p : Place) → NamesLeft xs zone moves p
        → LeadsInto (wrappers_forwarded moves zone h.shape.wrappers) noted zone p
    leads p n =
        let at : cell_of h.shape p ≡ Some n.cell = seen-kept h.shape xs c.seen c.may.kept p ∙ n.stands in
        let within = within-cell xs p (subst IsSome (sym n.stands) cc) in
        let other : zone_of h.shape p ≢ zone = λ e. zone-other xs p.0 zone within n.out
        (sym (zone-seen h.shape xs c.seen c.may.kept p) ∙ e) in
        let mine : zone_of h.shape n.place ≡ zone =
        ap (zone_of h.shape) (sym n.left.2) ∙ (c.are.from n.left.0 n.left.1).1 in
        let f = joined-at n.cell.fields n.place n.has in
        let field = ap (λ o. field_in o f.0) at ∙ f.1 in
        let is = kind-of p n.cell at (c.may.across p n.place f.0 field (λ e. other (sym e ∙ mine))) in
        let led = leads-by p n.place n.cell at other mine n.has is n.cell.name
        (c.may.sound.1.cells p n.cell at).stands in
        record {
          from = led.from;
          below = led.below;
          other = led.other;
          is_noted = led.is_noted;
          listed = record {
            index = led.listed.index;
            listed = ap (λ es. option_map (λ (e : WrapperKey × Place). e.1) (slice_get es led.listed.index))
                (list-other h.shape.wrappers.lists zone led.from
                (all_forwarded moves (list_of h.shape.wrappers zone)) led.other) ∙ led.listed.listed;
          };
        }

  -- where a wrapper is listed when those of the zone have gone, a cell that is present has gone
  pub gone-listed : (z k : ℕ) (p : Place) → listed_at (wrappers_forwarded moves zone h.shape.wrappers) z k ≡ Some p
      → (q : Place) × IsPresent h.shape q × (moved moves q ≡ p)
  gone-listed z k p at =
      let was = was-listed h.shape.wrappers.lists zone z k moves p at in
      let stands = listed-stands z was.entry was.listed in (
        was.entry.1,
        stands.0,
        elim was.went [
          | inl here ↦ here.1
          | inr there ↦ stays was.entry.1 (λ left. there.0 (sym stands.1 ∙ left)) ∙ there.1
        ],
      )
    where
      stays : (q : Place) → (zone_of h.shape q ≡ zone → ⊥) → moved moves q ≡ q
      stays q other = elim (moved-cases moves q) [
        | inl w ↦ absurd (other (ap (zone_of h.shape) (sym w.3)
            ∙ (c.are.from w.1 (contained moves w.0 w.1 w.2)).1))
        | inr s ↦ s.0
      ]
