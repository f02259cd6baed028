-- A collector of an empty heap stands for the first world.
use Rattle.std.proofs.Common.{◌≡◌, ℕ, zero, suc, Bool, true, false, ◌&&◌, if◌then◌else◌, List, [], ◌∷◌, length, Option}
use Rattle.std.proofs.Common.{Some, None, is_some, slice_get, slice_index_or, replicate, refl, sym, ap, subst, ◌∙◌, inl}
use Rattle.std.proofs.Common.{inr, arith, Contains}
use Rattle.std.specs.FinMap as places
use Rattle.gz_names.specs.Order.{name_cmp}
use Rattle.gz_names.specs.declared.names.Name.{Name}
use Rattle.gz_names.specs.declared.names.Name.TheVariants.{Cell, Wrap}
use Rattle.gz_names.specs.declared.numbers.Place.{Place}
use Rattle.cell_bits.specs.declared.bits.Bits.{Bits}
use Rattle.zones.specs.declared.states.State.{State}
use Rattle.zones.specs.declared.states.State.TheVariants as state
use Rattle.mark_stack.specs.Stack.{Piles, no_places}
use Rattle.gray_lists.specs.Incoming.{IsOnce, list_of}
use Rattle.weak_maps.specs.Places.{is_same}
use Rattle.weak_maps.specs.Entries.{value_at}
use Rattle.weak_maps.specs.WeakMaps.{IsSound as AreEntries, LooksState}
use Rattle.weak_maps.proofs.Places.{is_same-self}
use Rattle.roots.specs.Buffers.{buffer_at}
use Rattle.colour_defs.specs.Graph.{empty_graph}
use Rattle.colour_defs.specs.World.{IsPresent as IsPresentName, first_world}
use Rattle.colour_defs.specs.Present as present
use Rattle.colour_defs.proofs.Lists.{nothing_in_none, no_name_in_nulls}
use Rattle.colour_defs.proofs.ValidRuns.{first_valid}
use Rattle.arena_table.specs.Cells.{CellState}
use Rattle.heap_core.specs.Shape.{ArenaShape, AreWhole, HasEdge, IsPresent, cell_in_arena, cell_of, field_in, is_white}
use Rattle.heap_core.specs.Shape.{name_at, out_in, out_of, state_in, state_or}
use Rattle.heap_core.specs.Heap.{HeapState, IsEmpty, colour_in, colour_of, joined, with_flown}
use Rattle.heap_core.specs.Heap.{without_delayed}
use Rattle.heap_core.proofs.Empty.{shows-empty}
use Rattle.barriers.specs.Colours.{IsSeen}
use Rattle.barriers.specs.Pending.{pending}
use Rattle.barriers.specs.PendingLive.{GrayInvariant, buffer_of}
use Rattle.barriers.specs.Invariant.{MarkingInvariant, ShapeInvariant}
use Rattle.barriers.proofs.Scans.{once_empty}
use Rattle.barriers.proofs.Slots.{slots_most}
use Rattle.weak_maps.specs.declared.entries.WeakEntry.{WeakEntry}
use Rattle.slice_driver.specs.Collector.{CollectorState, heap_with}
use Rattle.slice_driver.specs.Worlds.{AreRowsAtHome, LiesIn, outs_from, owners_of}
use Rattle.slice_driver.specs.Represents.{NothingLeft, RepresentsMarking, RunsAs}
use Rattle.slice_driver.specs.Units as flight
use Rattle.slice_driver.proofs.abstraction.Waits.{none_waiting}
use Rattle.slice_driver.proofs.basics.LeftLooks.{none_of}
use Rattle.slice_driver.proofs.basics.NamesWeakly.{nothing_weak}
use Rattle.slice_driver.proofs.abstraction.Crossing.{same_part}

pub no_buffer : (n z : ℕ) → slice_index_or (replicate {A = List Place} n []) z [] ≡ []
no_buffer zero z = refl
no_buffer (suc n) zero = refl
no_buffer (suc n) (suc z) = no_buffer n z

no_cell : (h : HeapState) → IsEmpty h → (p : Place) → cell_of h.shape p ≡ None
no_cell h e p = ap (λ (xs : List ArenaShape). cell_in_arena (slice_get xs p.0) p.1) e.arenas

no_name : (h : HeapState) → IsEmpty h → (p : Place) → name_at h.shape p ≡ None
no_name h e p = ap (λ (o : Option CellState). Rattle.std.specs.Option.option_map (λ (cell : CellState). cell.name) o)
    (no_cell h e p)

module _ (c : CollectorState) (e : IsEmpty c.heap) where
  abbrev h : HeapState
  h = joined c.heap flight.none_flown

  colours_none : h.colours ≡ []
  colours_none = ap (with_flown flight.none_flown 0) e.colours

  not_seen : (p : Place) → IsSeen h p → ⊥
  not_seen p s = (let white : colour_of h p ≡ colour_in None p.1 =
      ap (λ (bs : List Bits). colour_in (slice_get bs p.0) p.1) colours_none in
      elim s [ inl g ↦ cc (white, g) | inr b ↦ cc (white, b) ])

  not_present : (p : Place) → IsPresent c.heap.shape p → ⊥
  not_present p there = cc (no_cell c.heap e p, there)

  no_edge : (p q : Place) → HasEdge c.heap.shape p q → ⊥
  no_edge p q edge = (let none : field_in (cell_of c.heap.shape p) edge.0 ≡ None =
      ap (λ o. field_in o edge.0) (no_cell c.heap e p) in cc (none, edge.2))

  none_out : (a : ℕ) → out_of c.heap.shape a ≡ None
  none_out a = ap (λ (xs : List ArenaShape). out_in (slice_get xs a)) e.arenas

  no_state : (z : ℕ) → state_in c.heap.shape z ≡ state.NoGC
  no_state z = ap (λ (xs : List State). state_or (slice_get xs z)) e.states

  no_reg : (p : Place) → Contains c.heap.shape.regs (Some p) → ⊥
  no_reg p has = no_name_in_nulls 16 p (subst (λ (xs : List (Option Place)). Contains xs (Some p)) e.regs has)

  nothing_buffered : (z : ℕ) → buffer_of c.heap z ≡ []
  nothing_buffered z = ap (λ bs. buffer_at bs z) e.buffers ∙ no_buffer 64 z

  not_named : (x : Name) → IsPresentName first_world x → ⊥
  not_named x there = let none : places.get first_world.places x ≡ None = places.get-empty name_cmp x in
      cc (none, there)

  nothing_here : (x : Name) → present.IsHere empty_graph x → ⊥
  nothing_here (Cell n) here = cc here.1
  nothing_here (Wrap d t) here = cc here

  lies : LiesIn c.heap first_world
  lies = record {
    whole = subst AreWhole (sym e.arenas) (λ a arena is. absurd (cc is));
    graph = empty_graph;
    shown = shows-empty c.heap e;
    part = record {
      well_formed = first_valid.graph;
      part = same_part empty_graph;
      here = λ x. ((λ here. absurd (nothing_here x here)), λ there. absurd (not_named x there));
    };
    places_are = λ x p. (
      (λ is.
          absurd (let none : places.get first_world.places x ≡ None = places.get-empty name_cmp x in cc (none, is))),
      λ is. absurd (cc (no_name c.heap e p, is)),
    );
    owner_is = sym (ap owners_of e.arenas);
    weak_are = nothing_weak c.heap.shape c.heap.weak_names e.weak_names;
    out_is = sym (ap (outs_from 0) e.arenas);
    white_are = λ x p. (
      (λ has. absurd (nothing_in_none {X = Name × (ℕ × ℕ)} (x, p) has)),
      λ un. absurd (let none = none_out p.0 in cc (none, un.out_is)),
    );
  }

  shape : ShapeInvariant c.heap.shape
  shape = record {
    made = λ p there. absurd (not_present p there);
    at_home = λ p cell is. absurd (cc (no_cell c.heap e p, is));
    targets = λ p q edge. absurd (no_edge p q edge);
    across = λ p q f lt is apart. absurd (no_edge p q (f, lt, is));
    entries = λ m k v is. absurd (cc (e.entries m k, is));
    one_zone = λ m k v is. absurd (cc (e.entries m k, is));
    delegates = λ m k v d is. absurd (cc (e.entries m k, is));
    kept = λ p m. none_out p.0;
  }

  marks : (stack : Piles) → stack.black ≡ [] → stack.gray ≡ [] → stack.wake ≡ [] → MarkingInvariant h stack
  marks stack black gray wake =
      let size : length h.colours ≡ 0 = ap (λ (xs : List Bits). length xs) colours_none in
      record {
        holds = record {
          colours = record {
            shape = shape;
            sized = size ∙ sym (ap (λ (xs : List ArenaShape). length xs) e.arenas);
            seen_present = λ p s. absurd (not_seen p s);
            no_white = λ p there m. absurd (not_present p there);
            no_gray = λ p st g. not_seen p (inl g);
            regs_black = λ p has. absurd (no_reg p has);
          };
          piles = record {
            black = λ p has. absurd (nothing_in_none p (subst (λ xs. Contains xs p) black has));
            wake = λ p has. absurd (nothing_in_none p (subst (λ xs. Contains xs p) wake has));
            gray = λ p has. absurd (nothing_in_none p (subst (λ xs. Contains xs p) gray has));
          };
          closed = λ p q b edge. absurd (no_edge p q edge);
          weak_closed = λ m k v is bm bk off. absurd (cc (e.entries m k, is));
          key_closed = λ m k v d is delegate bm bd. absurd (cc (e.entries m k, is));
        };
        none_woken = wake;
        weak = record {
          black = λ m k v is bm bk on. absurd (cc (e.entries m k, is));
          gray = λ m k v is sm sk takes. absurd (cc (e.entries m k, is));
          gray_key = λ m k v d is delegate sm sd takes. absurd (cc (e.entries m k, is));
        };
        once = once_empty h stack black gray;
      }

  gray_begins : (stack : Piles) → stack.gray ≡ [] → ((n : ℕ) → list_of c.lists n ≡ []) → GrayInvariant h stack c.lists
  gray_begins stack gray lists =
      let size : length h.colours ≡ 0 = ap (λ (xs : List Bits). length xs) colours_none in
      record {
        buffered_seen = λ z p has. absurd (nothing_in_none p (subst (λ xs. Contains xs p) (nothing_buffered z) has));
        buffered_present = λ z p has. absurd (nothing_in_none p (subst (λ xs. Contains xs p) (nothing_buffered z) has));
        incoming_seen = λ n p has. absurd (nothing_in_none p (subst (λ xs. Contains xs p) (lists n) has));
        closed = λ p q g edge. absurd (no_edge p q edge);
        apart = λ n p has i. nothing_in_none p (subst (λ xs. Contains xs p) gray has);
        lists_apart = record {
          once = λ n. subst IsOnce (sym (lists n)) tt;
          one_list = λ n m p i j. absurd (nothing_in_none p (subst (λ xs. Contains xs p) (lists n) i));
        };
        few = omega (
          arith,
          none_waiting c.lists lists,
          ap (λ (xs : List Place). length xs) gray,
          slots_most is_white h.colours,
        );
        room = omega (arith, size);
      }

  -- a row is that of an entry, and there is none
  no_rows : AreEntries c.heap.shape.weak → AreRowsAtHome c.heap.shape
  no_rows sound row has =
      absurd (let entered = sound.entered row has in let none = e.entries row.map row.key in cc (none, entered.1))

  nothing_left : NothingLeft c.heap.looks
  nothing_left = subst (λ (l : LooksState). NothingLeft l) (sym e.looks)
      (((λ n. (λ at. cc at, λ at. cc at)), λ n at. cc at), ((λ n. (λ at. cc at, λ at. cc at)), λ n at. cc at))

  pub represents_first : AreEntries c.heap.shape.weak → c.stack.black ≡ [] → c.stack.gray ≡ [] → c.stack.wake ≡ []
      → ((n : ℕ) → list_of c.lists n ≡ []) → c.run ≡ None → RepresentsMarking c flight.none_flown first_world
  represents_first sound black gray wake lists run = record {
    placed = record { delayed = e.delayed; lies = lies; homes = no_rows sound };
    swept = record {
      apart = λ x p q up uq. absurd (let none = none_out p.0 in cc (none, up.out_is));
      flies = record { covers = λ a. ap is_some (sym (none_out a)); woken = λ a old new is at. absurd (cc at) };
    };
    coloured = record {
      marks = marks c.stack black gray wake;
      gray = gray_begins c.stack gray lists;
      waits = record {
        piled = λ x has. absurd (nothing_in_none x (subst (λ xs. Contains xs x) gray has));
        buffered = λ z m. nothing_buffered z;
        incoming = λ n p has. absurd (nothing_in_none p (subst (λ xs. Contains xs p) (lists n) has));
        looks = λ quiet. nothing_left;
        of_marking = none_of c.heap.shape c.heap.looks nothing_left;
      };
    };
    phase = record {
      calm = refl;
      black = λ s x p is. absurd (cc (no_name c.heap e p, is));
      runs = subst (λ r. RunsAs (heap_with c flight.none_flown) c first_world r None) (sym run)
          (record { states = no_state; kept = none_out; black = black; gray = gray });
    };
  }

-- a heap without cells is one as the collector is seen, and nothing is pending in it
pub empty_viewed : (h : HeapState) → IsEmpty h → IsEmpty (without_delayed h)
empty_viewed h e = record {
  arenas = e.arenas;
  states = e.states;
  comps = e.comps;
  wrappers = e.wrappers;
  entries = e.entries;
  regs = e.regs;
  slots = e.slots;
  objects = e.objects;
  colours = e.colours;
  buffers = e.buffers;
  made = e.made;
  looks = e.looks;
  delayed = refl;
  weak_names = e.weak_names;
  ledger = e.ledger;
}

pub none_pending : (h : HeapState) (p : Piles) → IsEmpty h → p ≡ no_places → pending h p ≡ no_places
none_pending h p e none = ap (λ (q : Piles). pending h q) none
    ∙ ap (λ (d : Piles). pending (record h { delayed = d }) no_places) e.delayed

-- weak maps without a value have no entry
pub no_entries : (es : List WeakEntry) → ((m k : Place) → value_at es m k ≡ None) → length es ≡ 0
no_entries [] none = refl
no_entries (e ∷ es) none =
    absurd (by (is_same e.map e.map) (is_same e.key e.key) (is_same-self e.map) (is_same-self e.key) (none e.map e.key))
  where
    by : (x y : Bool) → x ≡ true → y ≡ true → (if x && y then Some e.value else value_at es e.map e.key) ≡ None → ⊥
    by true true a b h = cc h
    by true false a b h = cc b
    by false y a b h = cc a
