-- A look at one wrapper more leaves the collector standing for the same world.
use Rattle.std.proofs.Common.{◌≡◌, ◌≤◌, ◌+◌, ℕ, Bool, true, false, inl, inr, refl, sym, ap, ◌∙◌, subst, arith, Option}
use Rattle.std.proofs.Common.{None, Some, is_some, [], Contains, slice_get, option_map}
use Rattle.std.proofs.lemmas.Bool.{cases_eq}
use Rattle.gz_names.specs.Zones.{HasZone}
use Rattle.gz_names.specs.declared.commands.Kind.TheVariants as kind
use Rattle.gz_names.specs.declared.names.Name.{Name}
use Rattle.gz_names.specs.declared.names.Name.TheVariants.{Cell, Wrap}
use Rattle.gz_names.specs.declared.numbers.CompNo.{CompNo}
use Rattle.gz_names.specs.declared.numbers.Place.{Place}
use Rattle.gz_names.specs.declared.zone_sets.ZoneSet.{ZoneSet}
use Rattle.cell_bits.specs.declared.bits.Bits.{Bits}
use Rattle.arena_table.specs.Cells.{CellState, joined}
use Rattle.mark_stack.specs.Stack.{Piles}
use Rattle.colour_defs.specs.Closure.{Closure}
use Rattle.colour_defs.specs.Groups.{IsFirstEdge, IsKeyOfPresent, LeadsOutside}
use Rattle.colour_defs.specs.Laws.{IsMarking, IsValid}
use Rattle.colour_defs.specs.World.{World, Collection, Has, BlackClosure}
use Rattle.colour_defs.proofs.Carried.{reached_more}
use Rattle.colour_defs.proofs.ZoneSets.{zones_in-has}
use Rattle.heap_core.specs.Shape.{IsDelegate, cell_of, field_in, is_marking, is_marking_state, name_at}
use Rattle.heap_core.specs.Shape.{out_of, zone_of}
use Rattle.heap_core.specs.Heap.{HeapState, joined as with_flown_bits}
use Rattle.heap_core.specs.Shows.{StandsFor, is_wrapper}
use Rattle.barriers.specs.Reached.{Reached, HasEntry}
use Rattle.barriers.specs.Reached as reached
use Rattle.barriers.specs.Colours.{IsBlack}
use Rattle.barriers.specs.Invariant.{IsToFollow, MarkingInvariant}
use Rattle.barriers.proofs.BlackClosure.{black_or_not, none_on_wake, pending_is_reached}
use Rattle.barriers.proofs.Places.{nothing_in_none}
use Rattle.zone_edges.specs.Looks.{IsEdgeFor, IsKey, LeadsFrom, cursor_of}
use Rattle.slice_driver.specs.Collector.{CollectorState, RunState, heap_with}
use Rattle.slice_driver.specs.Closures.{AreTied}
use Rattle.slice_driver.specs.Grouping.{LooksIn}
use Rattle.slice_driver.specs.Quiet.{IsQuiet, KeepsLooks}
use Rattle.slice_driver.specs.Represents.{AreLookedAt, RepresentsMarking, Runs}
use Rattle.slice_driver.proofs.abstraction.Named.{name_of, present_named, some_one}
use Rattle.slice_driver.proofs.abstraction.Tying.{entry_named}
use Rattle.slice_driver.proofs.abstraction.Lying.{zone_named}
use Rattle.slice_driver.proofs.group_end.Ready.{joined_none, no_some, runs_of}

-- where no arena is out, the heap's own bits count
pub own_heap : (c : CollectorState) (flown : ℕ → Option Bits) (w : World) → RepresentsMarking c flown w
    → ((a : ℕ) → out_of c.heap.shape a ≡ None) → heap_with c flown ≡ c.heap
own_heap c flown w s kept =
    joined_none c.heap flown s.placed.delayed (λ a. no_some (flown a) (s.swept.flies.covers a ∙ ap is_some (kept a)))

-- where black marking has nothing left to do, no cell is to be followed
none_follows : (h : HeapState) (p : Piles) → MarkingInvariant h p → p.black ≡ [] → (x : Place) → IsToFollow [] p x → ⊥
none_follows h p inv empty x (inl c) = nothing_in_none x (subst (λ ys. Contains ys x) empty c)
none_follows h p inv empty x (inr (inl c)) = none_on_wake h p x inv c
none_follows h p inv empty x (inr (inr c)) = nothing_in_none x c

-- and all that is reached from black is black
pub black_reached : (h : HeapState) (p : Piles) → MarkingInvariant h p → p.black ≡ []
    → ((m k v : Place) → HasEntry h.shape m k v → IsBlack h m → IsBlack h k → is_marking h.shape v ≡ true → IsBlack h v)
    → ((m k v d : Place) → HasEntry h.shape m k v → IsDelegate h.shape k d → IsBlack h m → IsBlack h d → IsBlack h k)
    → {x : Place} → Reached h.shape (IsBlack h) x → IsBlack h x
black_reached h p inv empty fixed keys (reached.from b) = b
black_reached h p inv empty fixed keys (reached.delegate {m} {k} {v} {d} e is a b) =
    keys m k v d e is (black_reached h p inv empty fixed keys a) (black_reached h p inv empty fixed keys b)
black_reached h p inv empty fixed keys (reached.along {x} {y} r e) =
    elim (inv.holds.closed x y (black_reached h p inv empty fixed keys r) e) [
      | inl by ↦ by
      | inr c ↦ absurd (none_follows h p inv empty x c)
    ]
black_reached h p inv empty fixed keys (reached.weak {m} {k} {v} e a b) =
    go (is_marking h.shape v) refl (black_reached h p inv empty fixed keys a) (black_reached h p inv empty fixed keys b)
  where
    go : (t : Bool) → is_marking h.shape v ≡ t → IsBlack h m → IsBlack h k → IsBlack h v
    go true t bm bk = fixed m k v e bm bk t
    go false t bm bk = elim (inv.holds.weak_closed m k v e bm bk t) [
      | inl b ↦ b
      | inr (inl w) ↦ absurd (none_follows h p inv empty m w)
      | inr (inr w) ↦ absurd (none_follows h p inv empty k w)
    ]

module _ (c d : CollectorState) (l : LooksIn c d) where
  heap_same : d.heap ≡ c.heap
  heap_same = ap (λ (z : CollectorState). z.heap) l.rest

  -- the rest of the collector is as it was
  pub quiet_look : (flown : ℕ → Option Bits) (w : World) → RepresentsMarking c flown w → IsQuiet c flown d flown
  quiet_look flown w s = subst (λ (z : CollectorState). IsQuiet c flown z flown) (sym l.rest) (record {
    shape_is = refl;
    made_is = refl;
    weak_names_is = refl;
    delayed_is = refl;
    run_is = refl;
    groups_is = refl;
    sized = refl;
    states = λ z. inl refl;
    flies = s.swept.flies;
    coloured = s.coloured;
    darker = λ p b. b;
    black = λ p. ((λ x. x), λ x. x);
    live = λ p. ((λ x. x), λ x. x);
  })

  module _ (flown : ℕ → Option Bits) (r : RunState) (w : World) (k : Collection) (s : RepresentsMarking c flown w)
      (running : c.run ≡ Some r) (at : w.collection ≡ Some k) (unformed : r.formed ≡ false)
      (was : AreLookedAt c.heap c r w k) (ok : IsValid w) where
    own : heap_with c flown ≡ c.heap
    own = own_heap c flown w s l.kept

    inv : MarkingInvariant c.heap c.stack
    inv = subst (λ h. MarkingInvariant h c.stack) own s.coloured.marks

    runs : Runs c.heap c w r k
    runs = subst (λ h. Runs h c w r k) own (runs_of c (heap_with c flown) w r k running at s.phase.runs)

    listed : (z : ℕ) → HasZone c.edges.zones.bits z → Contains k.zones z
    listed z here = subst (λ zs. Contains zs z) (sym runs.zones_are)
        ((zones_in-has r.zones z).1 (subst (λ (y : ZoneSet). HasZone y.bits z) was.zones_are here))

    marks : (z : ℕ) → HasZone c.edges.zones.bits z → Contains k.marking z
    marks z here = (runs.marking_are z).1 (ap is_marking_state
        (runs.states.early unformed z (subst (λ (y : ZoneSet). HasZone y.bits z) was.zones_are here)))

    tied_by : (z : ℕ) → HasZone c.edges.zones.bits z → AreTied c.heap c.stack c.lists w k
    tied_by z here = runs.tied z (marks z here)

    not_both : (b : Bool) → b ≡ true → b ≡ false → ⊥
    not_both b t f = cc (t, f)

    -- what is to become black is so
    is_black : (a : ℕ) → HasZone c.edges.zones.bits a → (x : Name) (p : Place) → name_at c.heap.shape p ≡ Some x
        → BlackClosure k x → IsBlack c.heap p
    is_black a here x p named closed = black_reached c.heap c.stack inv l.black_empty l.black_fixed l.keys_fixed
        (pending_is_reached c.heap c.stack inv (((tied_by a here).black x p named).1 closed))

    -- the wrapper leads so by names, to what is outside the black closure as it was
    leads_outside : (a b : ℕ) → LeadsFrom c.heap c.edges.zones l.looks.wrapper a b → (comp : CompNo) × (t : ℕ)
        × (name_at c.heap.shape l.looks.wrapper ≡ Some (Wrap comp t))
        × LeadsOutside w (Closure k.snapshot (Has k.black_starts)) a b comp t
    leads_outside a b e = go (cell_of c.heap.shape p) refl l.looks.is_wrapper.kind_is
      where
        p : Place
        p = l.looks.wrapper

        by : (x : Name) (cell : CellState) → cell_of c.heap.shape p ≡ Some cell → cell.kind ≡ kind.Wrapper
            → name_at c.heap.shape p ≡ Some x → StandsFor c.heap.shape s.placed.lies.graph p cell x → (comp : CompNo)
            × (t : ℕ) × (name_at c.heap.shape p ≡ Some (Wrap comp t))
            × LeadsOutside w (Closure k.snapshot (Has k.black_starts)) a b comp t
        by (Cell n) cell there is named stands = absurd (not_both (is_wrapper cell.kind) (ap is_wrapper is) stands.0)
        by (Wrap comp t) cell there is named stands =
            let held : Some stands.target ≡ Some e.target =
            sym (ap (λ o. field_in o 0) there ∙ ap (λ fs. joined (slice_get fs 0)) stands.fields_is)
            ∙ e.target_is in
            let target : name_at c.heap.shape e.target ≡ Some (Cell t) =
            ap (name_at c.heap.shape) (sym (some_one _ _ held)) ∙ stands.target_is in (
              comp,
              t,
              named,
              record {
                present = present_named c.heap w s.placed.lies p (Wrap comp t) named;
                of = zone_named c.heap s.placed.lies.graph w.graph p (Wrap comp t) s.placed.lies.shown
                    s.placed.lies.part.part named ∙ ap (λ z. Some z) e.from;
                into = zone_named c.heap s.placed.lies.graph w.graph e.target (Cell t) s.placed.lies.shown
                    s.placed.lies.part.part target ∙ ap (λ z. Some z) e.to;
                outside = λ closed. e.pale (is_black a e.has_from (Cell t) e.target target
                    (reached_more k.snapshot _ _ (λ y start. inl start) closed));
              },
            )

        go : (o : Option CellState) → cell_of c.heap.shape p ≡ o → option_map (λ (z : CellState). z.kind) o
            ≡ Some kind.Wrapper → (comp : CompNo) × (t : ℕ) × (name_at c.heap.shape p ≡ Some (Wrap comp t))
            × LeadsOutside w (Closure k.snapshot (Has k.black_starts)) a b comp t
        go None there is = absurd (cc is)
        go (Some cell) there is =
            by cell.name cell there (some_one _ _ is) (ap (option_map (λ (z : CellState). z.name)) there)
            (s.placed.lies.shown.cells p cell there).stands

    -- if it is a key it was one then, for else it was black since, and what it leads to is black
    was_key : (a b : ℕ) (comp : CompNo) (t : ℕ) → LeadsFrom c.heap c.edges.zones l.looks.wrapper a b
        → name_at c.heap.shape l.looks.wrapper ≡ Some (Wrap comp t) → IsKey c.heap.shape l.looks.wrapper
        → IsKeyOfPresent w k.snapshot (Wrap comp t)
    was_key a b comp t e named (m, v, entry) =
        let held = s.placed.lies.shown.entries_held m l.looks.wrapper v entry in
        let map = name_of c.heap.shape m held.0 in
        let value = name_of c.heap.shape v held.2 in
        let now = entry_named c.heap w s.placed.lies m l.looks.wrapper v map.0 (Wrap comp t) value.0 map.1 named
        value.1 entry in
        elim ((ok.marking k at marking).keys map.0 (Wrap comp t) value.0 now) [
          | inl then ↦ (map.0, then.0, then.1, present_named c.heap w s.placed.lies m map.0 map.1)
          | inr closed ↦ absurd (e.pale (black_target (is_black a e.has_from (Wrap comp t) l.looks.wrapper named
              closed)))
        ]
      where
        marking : IsMarking k
        marking none = nothing_in_none a (subst (λ zs. Contains zs a) none (marks a e.has_from))

        black_target : IsBlack c.heap l.looks.wrapper → IsBlack c.heap e.target
        black_target black = black_reached c.heap c.stack inv l.black_empty l.black_fixed l.keys_fixed
            (reached.along (reached.from black) (0, omega arith, e.target_is))

    -- an edge along which the wrapper leads is a first edge, and so is its reverse if it is a key
    first_edge : (a b : ℕ) → IsEdgeFor c.heap c.edges.zones l.looks.wrapper a b → IsFirstEdge w k a b
    first_edge a b (inl e) =
        let o = leads_outside a b e in
        (e.apart, listed a e.has_from, listed b e.has_to, inl (o.0, o.1, o.3))
    first_edge a b (inr (key, e)) =
        let o = leads_outside b a e in (
          λ same. e.apart (sym same),
          listed a e.has_to,
          listed b e.has_from,
          inr (o.0, o.1, o.3, was_key b a o.0 o.1 e o.2 key),
        )

    cursor_more : (z : ℕ) → cursor_of c.edges z ≤ cursor_of d.edges z
    cursor_more z = elim (cases_eq z l.looks.zone) [
      | inl is ↦ (let raised : cursor_of d.edges z ≡ cursor_of c.edges z + 1 = ap (cursor_of d.edges) is
          ∙ l.looks.raised ∙ ap (λ y. cursor_of c.edges y + 1) (sym is) in omega arith)
      | inr ne ↦ (let same = l.looks.others z ne in omega arith)
    ]

    looked_after : AreLookedAt c.heap d r w k
    looked_after = record {
      zones_are = l.zones_are ∙ was.zones_are;
      first = λ a b e. elim ((l.looks.edges a b).0 e) [ inl old ↦ was.first a b old | inr new ↦ first_edge a b new ];
      looked = λ p q across seen. elim ((l.looks.looked p).0 seen) [
        | inl old ↦ elim (was.looked p q across old) [
          | inl b ↦ inl b
          | inr e ↦ inr (
            (l.looks.edges _ _).1 (inl e.0),
            λ key. elim (e.1 key) [ inl b ↦ inl b | inr back ↦ inr ((l.looks.edges _ _).1 (inl back)) ],
          )
        ]
        | inr is ↦ elim (black_or_not c.heap q) [
          | inl b ↦ inl b
          | inr pale ↦
              let wraps = inv.holds.colours.shape.across p q across.edge.0 across.edge.1 across.edge.2 across.apart in
              let leads : LeadsFrom c.heap c.edges.zones p (zone_of c.heap.shape p) (zone_of c.heap.shape q) = record {
                target = q;
                target_is = wraps.1;
                from = refl;
                to = refl;
                has_from = subst (λ (y : ZoneSet). HasZone y.bits (zone_of c.heap.shape p)) (sym was.zones_are)
                    across.from;
                has_to = subst (λ (y : ZoneSet). HasZone y.bits (zone_of c.heap.shape q)) (sym was.zones_are) across.to;
                apart = across.apart;
                pale = pale;
              } in
              let there = subst (λ x. LeadsFrom c.heap c.edges.zones x (zone_of c.heap.shape p)
              (zone_of c.heap.shape q)) is leads in
              inr (
                (l.looks.edges _ _).1 (inr (inl there)),
                λ key. inr ((l.looks.edges _ _).1 (inr (inr (subst (λ x. IsKey c.heap.shape x) is key, there)))),
              )
        ]
      ];
      left_black = elim was.left_black [
        | inl fresh ↦ inl (ap (λ (z : ZoneSet). z.bits) l.stepped_is ∙ fresh)
        | inr black ↦ inr (λ z i p q here past there held.
            black z i p q (subst (λ (y : ZoneSet). HasZone y.bits z) l.zones_are here)
            (let more = cursor_more z in omega arith) there held)
      ];
    }

  pub keeps_look : (flown : ℕ → Option Bits) (w : World) → IsValid w → KeepsLooks w c flown d flown
  keeps_look flown w ok r k s running at unformed was =
      let own = own_heap c flown w s l.kept in
      let after : AreLookedAt c.heap d r w k =
      looked_after flown r w k s running at unformed (subst (λ h. AreLookedAt h c r w k) own was) ok in
      subst (λ h. AreLookedAt (with_flown_bits h flown) d r w k) (sym heap_same)
      (subst (λ h. AreLookedAt h d r w k) (sym own) after)
