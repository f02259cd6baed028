-- What a collection that runs keeps over a command's change of the heap, besides the tie to its closures.
use Rattle.std.proofs.Common.{◌≡◌, ◌⊎◌, ◌<◌, ◌≤◌, ℕ, if◌then◌else◌, List, length, map, Option, Some, None, IsSome}
use Rattle.std.proofs.Common.{Contains, inl, inr, refl, sym, ap, subst, ◌∙◌, arith}
use Rattle.gz_names.specs.Zones.{HasZone, zones_in}
use Rattle.gz_names.specs.declared.names.Name.{Name}
use Rattle.gz_names.specs.declared.names.Name.TheVariants.{Cell, Wrap}
use Rattle.gz_names.specs.declared.numbers.CompNo.{CompNo}
use Rattle.gz_names.specs.declared.numbers.Place.{Place}
use Rattle.gz_names.specs.declared.replies.Reply.{Reply}
use Rattle.cell_bits.specs.declared.bits.Bits.{Bits}
use Rattle.wrappers.specs.WrapperMaps.{AreApart}
use Rattle.colour_defs.specs.Graph.{GraphState}
use Rattle.colour_defs.specs.Graph as graph
use Rattle.colour_defs.specs.Groups.{IsFirstEdge, LeadsOutside}
use Rattle.colour_defs.specs.Closure.{Closure}
use Rattle.colour_defs.specs.Laws.{IsValid}
use Rattle.colour_defs.specs.World.{Collection, Has, IsPresent as IsPresentName, World}
use Rattle.heap_core.specs.Shape.{HasEdge, IsPresent, Shape, is_marking_state, name_at, out_of, zone_of, state_in}
use Rattle.heap_core.specs.Heap.{HeapState, joined}
use Rattle.heap_core.specs.declared.plans.Change.{Change}
use Rattle.heap_core.specs.Plans.{ChangesBy, IsAble}
use Rattle.heap_core.specs.Shows.{Shows}
use Rattle.heap_core.proofs.MakingCells.{same-place}
use Rattle.barriers.specs.Colours.{IsBlack}
use Rattle.barriers.specs.Invariant.{MarkingInvariant}
use Rattle.barriers.specs.PendingLive.{buffer_of}
use Rattle.barriers.specs.Spreading.{Covers}
use Rattle.barriers.proofs.Flying.{flown_length}
use Rattle.zone_edges.specs.Groups.{Edge}
use Rattle.zone_edges.specs.Looks.{AreLeftBlack, IsLookedAt, WrapsBlack, cursor_of, wrapper_at}
use Rattle.zone_edges.proofs.LeftBlack.{left_changes}
use Rattle.slice_driver.specs.Closures.{AreTied}
use Rattle.slice_driver.specs.Collector.{CollectorState, RunState}
use Rattle.slice_driver.specs.Commands.{ComesTo, StayInPlace}
use Rattle.slice_driver.specs.Represents.{AreInStates, AreLookedAt, LeadsAcross, Runs}
use Rattle.slice_driver.specs.Represents.{NothingLeft, WaitsWhileMarking}
use Rattle.slice_driver.specs.Serves.{Serves}
use Rattle.slice_driver.specs.Worlds.{LiesIn}
use Rattle.slice_driver.proofs.basics.LeftLooks.{LooksLeftFrom, looks_of_marking}
use Rattle.slice_driver.proofs.group_end.Places.{edge_from}
use Rattle.slice_driver.proofs.commanding.JoinedChanges.{changes_joined, stood_before}
use Rattle.heap_core.proofs.Resolved.{shows_coloured}
use Rattle.slice_driver.proofs.abstraction.Lying.{zone_named}
use Rattle.slice_driver.proofs.abstraction.Named.{named_present, place_of, present_named}

-- present cells keep their names
pub names_stay : (s t : Shape) → StayInPlace s t → (q : Place) (y : Name) → name_at s q ≡ Some y → name_at t q ≡ Some y
names_stay s t stay q y e = stay.names q ∙ e

pub names_come : (s t : Shape) (zone : ℕ) (p : Place) (x : Name) → ComesTo s t zone p x → (q : Place) (y : Name)
    → name_at s q ≡ Some y → name_at t q ≡ Some y
names_come s t zone p x come q y e = elim (same-place q p) [
  | inl here ↦ absurd (come.free (subst (λ r. IsPresent s r) here.0 (named_present s q y e)))
  | inr away ↦ come.names q ∙ (ap (λ b. if b then Some x else name_at s q) away.1 ∙ e)
]

module _ (c d : CollectorState) (flying : ℕ → Option Bits) (rest : d ≡ record c { heap = d.heap })
    (served : Serves (joined c.heap flying) (joined d.heap flying) c.stack c.lists) where
  abbrev old : HeapState
  old = joined c.heap flying

  abbrev new : HeapState
  new = joined d.heap flying

  pub states_served : (r : RunState) → AreInStates c r → AreInStates d r
  states_served r a = subst (λ (x : CollectorState). AreInStates x r) (sym rest) now
    where
      now : AreInStates (record c { heap = d.heap }) r
      now = record {
        outside = λ z out. served.states z ∙ a.outside z out;
        made = λ z here. (let was : z < length c.heap.shape.states = a.made z here in
            let more : length c.heap.shape.states ≤ length d.heap.shape.states = served.made in
            omega (arith, was, more));
        early = λ unformed z here. served.states z ∙ a.early unformed z here;
        later = λ formed z here. elim (a.later formed z here) [
          | inl only ↦ inl (served.states z ∙ only)
          | inr both
              ↦ inr (both.0, served.states z ∙ both.1)
        ];
        ended = λ formed z here out. elim (a.ended formed z here out)
            [ inl sweeps ↦ inl (served.states z ∙ sweeps) | inr finished ↦ inr (served.states z ∙ finished) ];
        sweeping = λ z n p at zone out.
            (let was : IsSome (out_of c.heap.shape n) = subst (λ (o : Option Bits). IsSome o) (served.outs n) out in
            let there : IsSome (out_of c.heap.shape p.0) = subst (λ m. IsSome (out_of c.heap.shape m)) (sym at) was in
            served.states z ∙ a.sweeping z n p at (sym (served.zones_out p there) ∙ zone) was);
        swept = λ none z sweeps. a.swept (λ n. sym (served.outs n) ∙ none n) z (sym (served.states z) ∙ sweeps);
      }

  pub waits_served : MarkingInvariant old c.stack → (NothingLeft c.heap.looks → NothingLeft d.heap.looks)
      → LooksLeftFrom c.heap.shape c.heap.looks d.heap.shape d.heap.looks
      → WaitsWhileMarking old c.stack c.lists → WaitsWhileMarking new c.stack c.lists
  waits_served marks nothing left a = record {
    of_marking = looks_of_marking c.heap.shape c.heap.looks d.heap.shape d.heap.looks
        (λ p here. (
          served.there p here.0,
          ap (λ (z : ℕ). is_marking_state (state_in d.heap.shape z)) (served.zones p here.0)
              ∙ (ap is_marking_state (served.states (zone_of c.heap.shape p)) ∙ here.1),
        ))
        left a.of_marking;
    piled = λ x has.
        (let present = marks.holds.colours.seen_present x (marks.holds.piles.gray x has) in
        ap (state_in d.heap.shape) (served.zones x present) ∙ served.states (zone_of c.heap.shape x)
        ∙ a.piled x has);
    buffered = λ z idle. ap (λ (bs : List (List Place)). buffer_of (record d.heap { buffers = bs }) z)
        served.buffers ∙ a.buffered z (sym (ap is_marking_state (served.states z)) ∙ idle);
    incoming = λ n p waits.
        (let was = a.incoming n p waits in
        (was.0, served.comps n was.0 was.1, ap is_marking_state (served.states was.0) ∙ was.2));
    looks = λ idle. nothing (a.looks (λ z. sym (ap is_marking_state (served.states z)) ∙ idle z));
  }

  module _ (marks : MarkingInvariant old c.stack) where
    zone_from : (p q : Place) → HasEdge c.heap.shape p q → zone_of d.heap.shape p ≡ zone_of c.heap.shape p
    zone_from p q e = served.zones p (edge_from c.heap.shape p q e)

    zone_to : (p q : Place) → HasEdge c.heap.shape p q → zone_of d.heap.shape q ≡ zone_of c.heap.shape q
    zone_to p q e = served.zones q (marks.holds.colours.shape.targets p q e)

    -- an edge that leads across led across before, or leads to black
    led_across : (r : RunState) (p q : Place) → LeadsAcross d.heap.shape r p q → LeadsAcross c.heap.shape r p q
        ⊎ IsBlack new q
    led_across r p q leads = elim (served.across p q leads.edge leads.apart) [
      | inr black ↦ inr black
      | inl was ↦ (let from = zone_from p q was in let to = zone_to p q was in inl (record {
        edge = was;
        from = subst (λ z. HasZone r.zones.bits z) from leads.from;
        to = subst (λ z. HasZone r.zones.bits z) to leads.to;
        apart = λ same. leads.apart (from ∙ (same ∙ sym to));
      }))
    ]

  module _ (w v : World) (k kk : Collection) (lies : LiesIn c.heap w) (lies_after : LiesIn d.heap v) (ok : IsValid w)
      (same : kk ≡ record k { tally = kk.tally; woken = kk.woken }) (names : (q : Place) (y : Name)
      → name_at c.heap.shape q ≡ Some y → name_at d.heap.shape q ≡ Some y) where
    -- a present name is present in the same zone
    name_still : (x : Name) → IsPresentName w x → IsPresentName v x
        × (graph.zone_of v.graph x ≡ graph.zone_of w.graph x)
    name_still x there =
        let p = place_of c.heap w lies x there in
        let now : name_at d.heap.shape p.0 ≡ Some x = names p.0 x p.1 in (
          present_named d.heap v lies_after p.0 x now,
          zone_named d.heap lies_after.graph v.graph p.0 x lies_after.shown lies_after.part.part now
              ∙ (ap (λ z. Some z) (served.zones p.0 (named_present c.heap.shape p.0 x p.1))
              ∙ sym (zone_named c.heap lies.graph w.graph p.0 x lies.shown lies.part.part p.1)),
        )

    leads_still : (set : Name → Type 0) (a b : ℕ) (n : CompNo) (t : ℕ) → LeadsOutside w set a b n t
        → LeadsOutside v set a b n t
    leads_still set a b n t l =
        let from = name_still (Wrap n t) l.present in
        let to = name_still (Cell t)
        (ok.presence.edges (Wrap n t) (Cell t) l.present (refl, (ok.made (Wrap n t) l.present).2)) in
        record { present = from.0; of = from.1 ∙ l.of; into = to.1 ∙ l.into; outside = l.outside }

    pub first_served : (a b : ℕ) → IsFirstEdge w k a b → IsFirstEdge v kk a b
    first_served a b e = subst (λ (x : Collection). IsFirstEdge v x a b) (sym same) (
      e.0,
      e.1,
      e.2,
      elim e.3 [
        | inl l ↦ inl (l.0, l.1, leads_still (Closure k.snapshot (Has k.black_starts)) a b l.0 l.1 l.2)
        | inr l ↦ inr (
          l.0,
          l.1,
          leads_still (Closure k.snapshot (Has k.black_starts)) b a l.0 l.1 l.2,
          (l.3.0, l.3.1, l.3.2, (name_still l.3.0 l.3.3).0),
        )
      ],
    )

  module _ (marks : MarkingInvariant old c.stack) (w v : World) (k kk : Collection) (lies : LiesIn c.heap w)
      (lies_after : LiesIn d.heap v) (ok : IsValid w)
      (same : kk ≡ record k { tally = kk.tally; woken = kk.woken })
      (names : (q : Place) (y : Name) → name_at c.heap.shape q ≡ Some y → name_at d.heap.shape q ≡ Some y)
      (ch : Change) (answer : Reply) (g : GraphState) (changes : ChangesBy c.heap ch answer d.heap)
      (shows : Shows c.heap g) (able : IsAble c.heap.shape c.heap.made ch)
      (apart : AreApart c.heap.shape.wrappers.lists) (black : WrapsBlack old ch)
      (covers : Covers c.heap.shape flying) where
    sized : length c.heap.colours ≡ length c.heap.shape.arenas
    sized = sym (flown_length flying 0 c.heap.colours) ∙ marks.holds.colours.sized

    looked_before : (p q : Place) → HasEdge c.heap.shape p q → IsLookedAt d.heap.shape c.edges p
        → IsLookedAt c.heap.shape c.edges p
    looked_before p q e l =
        let zone = zone_from marks p q e in
        record {
          index = l.index;
          before = subst (λ z. l.index < cursor_of c.edges z) zone l.before;
          stands = subst (λ z. wrapper_at c.heap.shape z l.index ≡ Some p) zone
              (stood_before c.heap (zone_of d.heap.shape p) l.index p (edge_from c.heap.shape p q e) d.heap ch answer
              changes l.stands);
        }

    left_served : AreLeftBlack old c.edges → AreLeftBlack new c.edges
    left_served left = left_changes old g c.edges (shows_coloured c.heap old.colours old.delayed g shows) apart left new
        c.heap.made ch answer able black (changes_joined c.heap flying covers sized d.heap ch answer changes)

    edge_served : (p q : Place) → zone_of d.heap.shape p ≡ zone_of c.heap.shape p
        → zone_of d.heap.shape q ≡ zone_of c.heap.shape q
        → Edge c.edges.sources (zone_of c.heap.shape p) (zone_of c.heap.shape q)
        → Edge c.edges.sources (zone_of d.heap.shape p) (zone_of d.heap.shape q)
    edge_served p q from to e = subst (λ z. Edge c.edges.sources z (zone_of d.heap.shape q)) (sym from)
        (subst (λ z. Edge c.edges.sources (zone_of c.heap.shape p) z) (sym to) e)

    pub looked_served : (r : RunState) → AreLookedAt old c r w k → AreLookedAt new d r v kk
    looked_served r a = subst (λ (x : CollectorState). AreLookedAt new x r v kk) (sym rest) now
      where
        now : AreLookedAt new (record c { heap = d.heap }) r v kk
        now = record {
          zones_are = a.zones_are;
          first = λ from to e. first_served w v k kk lies lies_after ok same names from to (a.first from to e);
          looked = λ p q leads looked. elim (led_across marks r p q leads) [
            | inr to_black ↦ inl to_black
            | inl was ↦ elim (a.looked p q was (looked_before p q was.edge looked)) [
              | inl to_black ↦ inl (served.darker q to_black)
              | inr noted ↦ inr (
                edge_served p q (zone_from marks p q was.edge) (zone_to marks p q was.edge) noted.0,
                λ key. elim (served.keys key.0 p key.1 key.2) [
                  | inr black_key ↦ inl black_key
                  | inl key_then ↦ elim (noted.1 (key.0, key_then.0, key_then.1)) [
                    | inl black_key ↦ inl (served.darker p black_key)
                    | inr back ↦ inr (edge_served q p (zone_to marks p q was.edge) (zone_from marks p q was.edge) back)
                  ]
                ],
              )
            ]
          ];
          left_black = elim a.left_black [ inl none ↦ inl none | inr left ↦ inr (left_served left) ];
        }

    pub runs_served : (r : RunState) → Runs old c w r k
        → ((z : ℕ) → Contains kk.marking z → AreTied new d.stack d.lists v kk) → Runs new d v r kk
    runs_served r a tied = record {
      started = a.started;
      zones_are = ap (λ (x : Collection). x.zones) same ∙ a.zones_are;
      marking_are = λ z. (
        λ on. ap is_marking_state (served.states z)
            ∙ (a.marking_are z).0 (subst (λ (zs : List ℕ). Contains zs z) marking_same on),
        λ on. subst (λ (zs : List ℕ). Contains zs z) (sym marking_same)
            ((a.marking_are z).1 (sym (ap is_marking_state (served.states z)) ∙ on)),
      );
      groups_are = ap (λ (x : Collection). x.groups) same
          ∙ (a.groups_are ∙ ap (λ (x : CollectorState). if r.formed then Some (map zones_in x.groups) else None)
          (sym rest));
      states = states_served r a.states;
      tied = tied;
      early = λ unformed. looked_served r (a.early unformed);
    }
      where
        marking_same : kk.marking ≡ k.marking
        marking_same = ap (λ (x : Collection). x.marking) same
