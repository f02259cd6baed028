-- The plans of the commands.
use Rattle.std.proofs.Common.{◌≡◌, ◌≢◌, ◌<◌, ◌≤◌, ◌⊎◌, ◌&&◌, inl, inr, ℕ, Bool, true, false, List, Option, Some, None}
use Rattle.std.proofs.Common.{Ok, length, is_some, slice_get, if◌then◌else◌, refl, sym, ap, subst, ◌∙◌, arith}
use Rattle.std.specs.Prelude.{IsSomeAnd, option_and_then, unwrap_or}
use Rattle.std.specs.Option.{ForSome, option_map}
use Rattle.std.proofs.lemmas.Option.{slice_get_within}
use Rattle.gz_names.specs.declared.names.Name.TheVariants.{Cell, Wrap}
use Rattle.gz_names.specs.declared.replies.Refusal.TheVariants as refusal
use Rattle.gz_names.specs.declared.limits.TheConstants.{ZONE_LIMIT, COMP_LIMIT}
use Rattle.gz_names.specs.declared.commands.Kind.TheVariants as kind
use Rattle.gz_names.specs.declared.commands.GraphCmd.{GraphCmd}
use Rattle.gz_names.specs.declared.commands.GraphCmd.TheVariants as cmd
use Rattle.gz_names.specs.declared.numbers.CompNo.{CompNo}
use Rattle.gz_names.specs.declared.numbers.Place.{Place}
use Rattle.gz_names.specs.declared.replies.Reply.{Reply}
use Rattle.gz_names.specs.declared.replies.Reply.TheVariants as reply
use Rattle.cell_bits.specs.declared.bits.Bits.{Bits}
use Rattle.arena_table.specs.Cells.{CellState, field_count, field_of, joined}
use Rattle.wrappers.specs.WrapperMaps.{place_of}
use Rattle.weak_maps.specs.WeakMaps.{value_of}
use Rattle.colour_defs.specs.Graph.{GraphState}
use Rattle.colour_defs.specs.Step.{IsAccepted, is_same_comp, named_or_null, refusal_in, step_of, take_in_register}
use Rattle.colour_defs.specs.World.{woken_by}
use Rattle.colour_defs.proofs.Lists.{get_contains}
use Rattle.mark_stack.specs.Stack.{Piles}
use Rattle.heap_core.specs.declared.plans.Change.{Change}
use Rattle.heap_core.specs.declared.plans.Change.TheVariants as change
use Rattle.heap_core.specs.declared.plans.Plan.{Plan}
use Rattle.heap_core.specs.Shape.{IsPresent, cell_of, comp_at, field_at, field_in, held_name, zone_of}
use Rattle.heap_core.specs.Heap.{HeapState, reg_of, slot_of, with_marks, with_reg, with_slot}
use Rattle.heap_core.specs.Shows.{Shows, is_map, is_wrapper}
use Rattle.heap_core.specs.Answers.{DoesStep, IsSound}
use Rattle.heap_core.specs.Changes.{IsWithout, Writes, with_comp, with_zone}
use Rattle.heap_core.specs.Effects.{Changes}
use Rattle.heap_core.specs.Lookups.{Hands, IsEntry, IsWrappable, IsWritable, entry_refusal, entry_refusal_in}
use Rattle.heap_core.specs.Lookups.{field_refusal, fits_in, held_field, held_value, number_at, seen_from}
use Rattle.heap_core.specs.Lookups.{target_at, target_in, value_to_set}
use Rattle.heap_core.specs.Peeks.{handed, made_in, stored, wrapped_in, wrapped_target}
use Rattle.heap_core.specs.Plans as plans
use Rattle.heap_core.specs.Plans.{ChangesBy, HasField, IsAble, IsHeld, IsNear, IsNoWrap, IsPlanIn, IsPlanOf}
use Rattle.heap_core.specs.Plans.{IsWoken, LiesIn, MayCome, MayWant}
use Rattle.heap_core.proofs.Places.{present_cell}
use Rattle.heap_core.proofs.Shown.{of_map, reg_present, slot_present, slot_shown, wrapper_there}
use Rattle.heap_core.proofs.Fetched.{field_there}
use Rattle.heap_core.proofs.Held.{does-copy, does-drop, does-hold, does-release, does-take, named_sure}
use Rattle.heap_core.proofs.Grown.{does-comp, does-zone}
use Rattle.heap_core.proofs.Made.{does-make, does-make_wanting}
use Rattle.heap_core.proofs.Writing.{does-set, set_accepted}
use Rattle.heap_core.proofs.Seen.{same_comp-is, wrap_seen, wrap_unseen, wrap_woken}
use Rattle.heap_core.proofs.Wrapped.{does-unseen_made, unseen_absent, wraps-seen, wraps-unseen}
use Rattle.heap_core.proofs.Keyed.{del_accepted, does-del, does-del_absent, does-put, does-put_wanting}

-- colours and delayed cells do not count
pub shows_coloured : (h : HeapState) (ds : List Bits) (d : Piles) (g : GraphState) → Shows h g
    → Shows (with_marks h ds d) g
shows_coloured h ds d g s = record {
  zones_are = s.zones_are;
  comps_are = s.comps_are;
  objects_made = s.objects_made;
  registers_are = s.registers_are;
  slots_are = s.slots_are;
  registers_held = s.registers_held;
  slots_held = s.slots_held;
  fields_held = s.fields_held;
  cells = s.cells;
  apart = s.apart;
  objects_are = s.objects_are;
  wrappers_are = s.wrappers_are;
  mapped = s.mapped;
  maps_at_home = s.maps_at_home;
  entries_held = s.entries_held;
  entries_are = s.entries_are;
  entries_known = s.entries_known;
  few_objects = s.few_objects;
}

shows_before : (h : HeapState) (ds : List Bits) (d : Piles) (g : GraphState) → Shows (with_marks h ds d) g → Shows h g
shows_before h ds d g s = shows_coloured (with_marks h ds d) h.colours h.delayed g s

-- a plan whose change is that of a register
abbrev register_plan : ℕ → Option Place → Bool → Option Place → Plan
register_plan r v named w = record { overwritten = None; wrapped = w; change = change.Register r v named }

-- what a command says of itself that overwrites nothing and makes no cell
record Plain (h : HeapState) (c : GraphCmd) (v w : Option Place) : Type 0 where
  stored_is : stored h c ≡ None
  wrapped_is : w ≡ wrapped_target h c
  handed_is : v ≡ handed h c
  made_is : made_in h c ≡ None
  wrapped_there : ForSome w (IsPresent h.shape)
  wrapped_near : ForSome w (IsNear h.shape)
  only_wraps : IsNoWrap c → w ≡ None
  wakes : (IsWoken h c None × ForSome v (IsNear h.shape)) ⊎ IsWoken h c (held_name h.shape v)

none_there : (h : HeapState) → ForSome None (IsPresent h.shape)
none_there h p e = absurd (cc e)

none_near : (h : HeapState) → ForSome None (IsNear h.shape)
none_near h p e = absurd (cc e)

held_at : (h : HeapState) (r : ℕ) (p : Place) → reg_of h r ≡ Some p → IsHeld h.shape p
held_at h r p e = get_contains h.shape.regs r p e

registers : (h : HeapState) (c : GraphCmd) (r : ℕ) (v : Option Place) (named : Bool) (w : Option Place)
    → Plain h c v w
    → ForSome v (IsPresent h.shape)
    → ((g : GraphState) → Shows h g → IsAccepted g c)
    → ((answer : Reply) → answer ≡ (if named then named_or_null (held_name h.shape v) else reply.Accepted)
    → DoesStep h c (Ok answer) (with_reg h r v))
    → Changes h c (with_reg h r v)
    → IsPlanIn h c (register_plan r v named w)
registers h c r v named w plain there accepted does changes = record {
  accepted = accepted;
  overwritten = sym plain.stored_is;
  wrapped = plain.wrapped_is;
  handed = plain.handed_is;
  made = sym plain.made_is;
  replaced = refl;
  overwritten_there = none_there h;
  overwritten_near = none_near h;
  wrapped_there = plain.wrapped_there;
  wrapped_near = plain.wrapped_near;
  target = tt;
  only_wraps = plain.only_wraps;
  wakes = plain.wakes;
  handed_there = there;
  able = λ room few. there;
  wants = λ none. absurd none;
  does = λ few answer new by. (
    subst (λ (n : HeapState). DoesStep h c (Ok answer) n) (sym by.0) (does answer by.1),
    subst (λ (n : HeapState). Changes h c n) (sym by.0) changes,
  );
}

-- a look-up, whose reply names what was found
fetches : (h : HeapState) (c : GraphCmd) (r : ℕ) (v w : Option Place)
    → Plain h c v w
    → ForSome v (IsPresent h.shape)
    → ((g : GraphState) → Shows h g → step_of g c ≡ take_in_register g r (held_name h.shape v))
    → Changes h c (with_reg h r v)
    → IsPlanIn h c (register_plan r v true w)
fetches h c r v w plain there hands changes = registers h c r v true w plain there
    (λ g s. ap (λ (p : GraphState × Reply). refusal_in p.1) (hands g s) ∙ named_sure (held_name h.shape v))
    (λ answer is. subst (λ (a : Reply). DoesStep h c (Ok a) (with_reg h r v)) (sym is)
    (does-take h c r v (λ g s. there) hands))
    changes

-- a field of a register's cell, and the value of an entry of registers, are near
near_field : (h : HeapState) (s f : ℕ) (q : Place) → held_field h s f ≡ Some q → IsNear h.shape q
near_field h s f q e = go (reg_of h s) refl e
  where
    go : (o : Option Place) → reg_of h s ≡ o → option_and_then (λ (p : Place). field_at h.shape p f) o ≡ Some q
        → IsNear h.shape q
    go None at e = absurd (cc e)
    go (Some p) at e = plans.field p f (held_at h s p at) e

near_value : (h : HeapState) (m k : ℕ) (q : Place) → held_value h m k ≡ Some q → IsNear h.shape q
near_value h m k q e = go (reg_of h m) refl (reg_of h k) refl e
  where
    go : (o : Option Place) → reg_of h m ≡ o → (u : Option Place) → reg_of h k ≡ u
        → option_and_then (λ (map : Place). option_and_then (λ (key : Place). value_of h.shape.weak map key) u) o
        ≡ Some q → IsNear h.shape q
    go None at u there e = absurd (cc e)
    go (Some map) at None there e = absurd (cc e)
    go (Some map) at (Some key) there e = plans.value map key (held_at h m map at) (held_at h k key there) e

pub plans-get : (h : HeapState) (r s f : ℕ) (v : Option Place) → Hands h (λ r. cmd.Get r s f) (Ok v)
    → v ≡ held_field h s f → ForSome v (IsPresent h.shape)
    → IsPlanIn h (cmd.Get r s f) (register_plan r v true None)
plans-get h r s f v hands is there = fetches h (cmd.Get r s f) r v None
    (record {
      stored_is = refl;
      wrapped_is = refl;
      handed_is = is;
      made_is = refl;
      wrapped_there = none_there h;
      wrapped_near = none_near h;
      only_wraps = λ plain. refl;
      wakes = inl (λ g k. refl, λ q e. near_field h s f q (sym is ∙ e));
    }) there (hands r)
    (ap (with_reg h r) is)

pub plans-unwrap : (h : HeapState) (r s : ℕ) (v : Option Place) → Hands h (λ r. cmd.Unwrap r s) (Ok v)
    → v ≡ held_field h s 0 → ForSome v (IsPresent h.shape)
    → IsPlanIn h (cmd.Unwrap r s) (register_plan r v true None)
plans-unwrap h r s v hands is there = fetches h (cmd.Unwrap r s) r v None
    (record {
      stored_is = refl;
      wrapped_is = refl;
      handed_is = is;
      made_is = refl;
      wrapped_there = none_there h;
      wrapped_near = none_near h;
      only_wraps = λ plain. refl;
      wakes = inl (λ g k. refl, λ q e. near_field h s 0 q (sym is ∙ e));
    }) there (hands r)
    (ap (with_reg h r) is)

pub plans-find : (h : HeapState) (r m k : ℕ) (v : Option Place) → Hands h (λ r. cmd.Find r m k) (Ok v)
    → v ≡ held_value h m k → ForSome v (IsPresent h.shape)
    → IsPlanIn h (cmd.Find r m k) (register_plan r v true None)
plans-find h r m k v hands is there = fetches h (cmd.Find r m k) r v None
    (record {
      stored_is = refl;
      wrapped_is = refl;
      handed_is = is;
      made_is = refl;
      wrapped_there = none_there h;
      wrapped_near = none_near h;
      only_wraps = λ plain. refl;
      wakes = inl (λ g j. refl, λ q e. near_value h m k q (sym is ∙ e));
    }) there (hands r)
    (ap (with_reg h r) is)

pub plans-expose : (h : HeapState) (g : GraphState) (r k : ℕ) → Shows h g
    → IsPlanIn h (cmd.Expose r k) (register_plan r (slot_of h k) true None)
plans-expose h g r k s = fetches h (cmd.Expose r k) r (slot_of h k) None
    (record {
      stored_is = refl;
      wrapped_is = refl;
      handed_is = refl;
      made_is = refl;
      wrapped_there = none_there h;
      wrapped_near = none_near h;
      only_wraps = λ plain. refl;
      wakes = inr (λ j t. slot_shown h j k t);
    })
    (λ p e. slot_present h g k p s e) (λ j t. ap (λ x. take_in_register j r x) (slot_shown h j k t)) refl

pub plans-copy : (h : HeapState) (g : GraphState) (r s : ℕ) → Shows h g
    → IsPlanIn h (cmd.Copy r s) (register_plan r (reg_of h s) false None)
plans-copy h g r s shows = registers h (cmd.Copy r s) r (reg_of h s) false None
    (record {
      stored_is = refl;
      wrapped_is = refl;
      handed_is = refl;
      made_is = refl;
      wrapped_there = none_there h;
      wrapped_near = none_near h;
      only_wraps = λ plain. refl;
      wakes = inl (λ j t. refl, λ p e. plans.held (held_at h s p e));
    })
    (λ p e. reg_present h g s p shows e) (λ j t. (does-copy h r s j t).0.1)
    (λ answer is. subst (λ (a : Reply). DoesStep h (cmd.Copy r s) (Ok a) (with_reg h r (reg_of h s))) (sym is)
    (does-copy h r s))
    refl

pub plans-drop : (h : HeapState) (r : ℕ) → IsPlanIn h (cmd.Drop r) (register_plan r None false None)
plans-drop h r = registers h (cmd.Drop r) r None false None
    (record {
      stored_is = refl;
      wrapped_is = refl;
      handed_is = refl;
      made_is = refl;
      wrapped_there = none_there h;
      wrapped_near = none_near h;
      only_wraps = λ plain. refl;
      wakes = inl (λ j t. refl, none_near h);
    })
    (none_there h) (λ j t. refl)
    (λ answer is. subst (λ (a : Reply). DoesStep h (cmd.Drop r) (Ok a) (with_reg h r None)) (sym is) (does-drop h r))
    refl

-- a plan whose change overwrites nothing and is about no cell to wrap
abbrev plain_plan : Change → Plan
plain_plan ch = record { overwritten = None; wrapped = None; change = ch }

pub plans-hold : (h : HeapState) (g : GraphState) (k r : ℕ) → Shows h g
    → IsPlanIn h (cmd.Hold k r) (plain_plan (change.Slot k (reg_of h r)))
plans-hold h g k r shows = record {
  accepted = λ j t. (does-hold h k r j t).0.1;
  overwritten = refl;
  wrapped = refl;
  handed = refl;
  made = refl;
  replaced = refl;
  overwritten_there = none_there h;
  overwritten_near = none_near h;
  wrapped_there = none_there h;
  wrapped_near = none_near h;
  target = tt;
  only_wraps = λ plain. refl;
  handed_there = none_there h;
  able = λ room few p e. held_at h r p e;
  wakes = λ j t. refl;
  wants = λ none. absurd none;
  does = λ few answer new by. (
    subst (λ (n : HeapState). DoesStep h (cmd.Hold k r) (Ok answer) n) (sym by.0)
        (subst (λ (a : Reply). DoesStep h (cmd.Hold k r) (Ok a) (with_slot h k (reg_of h r))) (sym by.1)
        (does-hold h k r)),
    by.0,
  );
}

pub plans-release : (h : HeapState) (k : ℕ) → IsPlanIn h (cmd.Release k) (plain_plan (change.Slot k None))
plans-release h k = record {
  accepted = λ j t. refl;
  overwritten = refl;
  wrapped = refl;
  handed = refl;
  made = refl;
  replaced = refl;
  overwritten_there = none_there h;
  overwritten_near = none_near h;
  wrapped_there = none_there h;
  wrapped_near = none_near h;
  target = tt;
  only_wraps = λ plain. refl;
  handed_there = none_there h;
  able = λ room few p e. absurd (cc e);
  wakes = λ j t. refl;
  wants = λ none. absurd none;
  does = λ few answer new by. (
    subst (λ (n : HeapState). DoesStep h (cmd.Release k) (Ok answer) n) (sym by.0)
        (subst (λ (a : Reply). DoesStep h (cmd.Release k) (Ok a) (with_slot h k None)) (sym by.1) (does-release h k)),
    by.0,
  );
}

pub plans-zone : (h : HeapState) → length h.shape.states ≤ ZONE_LIMIT → length h.shape.states ≢ ZONE_LIMIT
    → IsPlanIn h cmd.Zone (plain_plan change.Zone)
plans-zone h most not = record {
  accepted = λ j t. (does-zone h (length h.shape.states) refl most not j t).0.1;
  overwritten = refl;
  wrapped = refl;
  handed = refl;
  made = refl;
  replaced = refl;
  overwritten_there = none_there h;
  overwritten_near = none_near h;
  wrapped_there = none_there h;
  wrapped_near = none_near h;
  target = tt;
  only_wraps = λ plain. refl;
  handed_there = none_there h;
  able = λ room few. not;
  wakes = λ j t. refl;
  wants = λ may. refl;
  does = λ few answer new by. (
    subst (λ (n : HeapState). DoesStep h cmd.Zone (Ok answer) n) (sym by.0)
        (subst (λ (a : Reply). DoesStep h cmd.Zone (Ok a) (with_zone h)) (sym by.1)
        (does-zone h (length h.shape.states) refl most not)),
    by.0,
  );
}

pub plans-comp : (h : HeapState) (z : ℕ) → z < length h.shape.states → length h.shape.comps ≤ COMP_LIMIT
    → length h.shape.comps ≢ COMP_LIMIT → IsPlanIn h (cmd.Comp z) (plain_plan (change.Comp z))
plans-comp h z there most not =
    let c : CompNo = record { 0 = length h.shape.comps } in
    record {
      accepted = λ j t. (does-comp h z c refl there most not j t).0.1;
      overwritten = refl;
      wrapped = refl;
      handed = refl;
      made = refl;
      replaced = refl;
      overwritten_there = none_there h;
      overwritten_near = none_near h;
      wrapped_there = none_there h;
      wrapped_near = none_near h;
      target = tt;
      only_wraps = λ plain. refl;
      handed_there = none_there h;
      able = λ room few. (there, not);
      wakes = λ j t. refl;
      wants = λ may. refl;
      does = λ few answer new by. (
        subst (λ (n : HeapState). DoesStep h (cmd.Comp z) (Ok answer) n) (sym by.0)
            (subst (λ (a : Reply). DoesStep h (cmd.Comp z) (Ok a) (with_comp h z)) (sym by.1)
            (does-comp h z c refl there most not)),
        by.0,
      );
    }

pub plans-new : (h : HeapState) (r : ℕ) (c : CompNo) (n z : ℕ) → LiesIn h.shape c z
    → IsPlanIn h (cmd.New r c n) (plain_plan (change.Cell r z c (kind.Object n)))
plans-new h r c n z home = record {
  accepted = λ g s. (does-make_wanting h r (kind.Object n) c (cmd.New r c n) (λ j. refl)
      (slice_get_within h.shape.comps c.0 z home.home) g s).0;
  overwritten = refl;
  wrapped = refl;
  handed = refl;
  made = sym home.home;
  replaced = refl;
  overwritten_there = none_there h;
  overwritten_near = none_near h;
  wrapped_there = none_there h;
  wrapped_near = none_near h;
  target = tt;
  only_wraps = λ plain. refl;
  handed_there = none_there h;
  able = λ room few. (home, few, room, refl);
  wakes = λ j t. ap (λ (n : ℕ). Some (Cell n)) t.objects_made;
  wants = λ may. refl;
  does = λ few answer new by. (
    subst (λ (a : Reply). DoesStep h (cmd.New r c n) (Ok a) new) (sym by.1)
        (does-make h new r (kind.Object n) c (cmd.New r c n) (λ j. refl) refl few by.0),
    by.0,
  );
}

pub plans-map : (h : HeapState) (r : ℕ) (c : CompNo) (z : ℕ) → LiesIn h.shape c z
    → IsPlanIn h (cmd.Map r c) (plain_plan (change.Cell r z c kind.Map))
plans-map h r c z home = record {
  accepted = λ g s. (does-make_wanting h r kind.Map c (cmd.Map r c) (λ j. refl)
      (slice_get_within h.shape.comps c.0 z home.home) g s).0;
  overwritten = refl;
  wrapped = refl;
  handed = refl;
  made = sym home.home;
  replaced = refl;
  overwritten_there = none_there h;
  overwritten_near = none_near h;
  wrapped_there = none_there h;
  wrapped_near = none_near h;
  target = tt;
  only_wraps = λ plain. refl;
  handed_there = none_there h;
  able = λ room few. (home, omega arith, room, refl);
  wakes = λ j t. ap (λ (n : ℕ). Some (Cell n)) t.objects_made;
  wants = λ may. refl;
  does = λ few answer new by. (
    subst (λ (a : Reply). DoesStep h (cmd.Map r c) (Ok a) new) (sym by.1)
        (does-make h new r kind.Map c (cmd.Map r c) (λ j. refl) refl (omega arith) by.0),
    by.0,
  );
}

-- cells of one compartment lie in one zone
same_zone : (h : HeapState) (g : GraphState) (p q : Place) (cell : CellState) → Shows h g
    → cell_of h.shape p ≡ Some cell → is_same_comp (comp_at h.shape q) cell.comp ≡ true
    → zone_of h.shape q ≡ zone_of h.shape p
same_zone h g p q cell shows there same =
    let d = of_map (λ (c : CellState). c.comp) (cell_of h.shape q) cell.comp
    (same_comp-is (comp_at h.shape q) cell.comp same) in
    let a = (shows.cells q d.0 d.1).at_home in
    let b = (shows.cells p cell there).at_home in
    let e : slice_get h.shape.comps d.0.comp.0 ≡ slice_get h.shape.comps cell.comp.0 =
    ap (λ (c : CompNo). slice_get h.shape.comps c.0) d.2 in
    cc (a, b, e)

-- what a `set` writes may come into the object
value_comes : (h : HeapState) (g : GraphState) (s f : ℕ) (t : Option ℕ) (p q : Place) → Shows h g → IsWritable h s f t p
    → value_to_set h t ≡ Some q → MayCome h.shape p q
value_comes h g s f t p q shows may e = record {
  held = by t e;
  zone = (let d = of_map (λ (cell : CellState). fits_in h.shape cell.comp (value_to_set h t)) (cell_of h.shape p) true
      may.fits in
      same_zone h g p q d.0 shows d.1 (sym (ap (λ (o : Option Place). fits_in h.shape d.0.comp o) e) ∙ d.2));
}
  where
    by : (u : Option ℕ) → value_to_set h u ≡ Some q → IsHeld h.shape q
    by None e = absurd (cc e)
    by (Some i) e = held_at h i q e

-- the field that it writes is there
has_field : (h : HeapState) (g : GraphState) (p : Place) (f : ℕ) → Shows h g
    → option_map (λ (cell : CellState). field_refusal cell.kind f) (cell_of h.shape p) ≡ Some None
    → IsSomeAnd (cell_of h.shape p) (λ (cell : CellState). HasField cell f)
has_field h g p f shows may =
    let c = of_map (λ (cell : CellState). field_refusal cell.kind f) (cell_of h.shape p) None may in
    let n = field_there c.0.kind f c.2 in
    let size : length c.0.fields ≡ field_count c.0.kind = (shows.cells p c.0 c.1).sized in
    let count : field_count c.0.kind ≡ n.0 = ap field_count n.1 in
    let below : f < n.0 = n.2 in
    let field : HasField c.0 f = record { within = omega arith; plain = ap is_wrapper n.1 } in
    subst (λ (o : Option CellState). IsSomeAnd o (λ (cell : CellState). HasField cell f)) (sym c.1) field

-- the key and the value of an entry that is not refused may come into the map
entry_comes : (h : HeapState) (g : GraphState) (m k v : Place) → Shows h g → entry_refusal h.shape m k v ≡ None
    → IsHeld h.shape k → IsHeld h.shape v
    → MayCome h.shape m k × MayCome h.shape m v
entry_comes h g m k v shows allowed key value = go (cell_of h.shape m) refl allowed
  where
    both : (cell : CellState) → cell_of h.shape m ≡ Some cell → (a b : Bool)
        → is_same_comp (comp_at h.shape k) cell.comp ≡ a → is_same_comp (comp_at h.shape v) cell.comp ≡ b
        → (if a && b then None else Some refusal.Cross) ≡ None → MayCome h.shape m k
        × MayCome h.shape m v
    both cell at true true a b e = (
      record { held = key; zone = same_zone h g m k cell shows at a },
      record { held = value; zone = same_zone h g m v cell shows at b },
    )
    both cell at true false a b e = absurd (cc e)
    both cell at false b a c e = absurd (cc e)

    map_there : (cell : CellState) → cell_of h.shape m ≡ Some cell → (b : Bool)
        → (if b then (if is_same_comp (comp_at h.shape k) cell.comp && is_same_comp (comp_at h.shape v) cell.comp
        then None else Some refusal.Cross) else Some refusal.Kind) ≡ None
        → MayCome h.shape m k × MayCome h.shape m v
    map_there cell at true e =
        both cell at (is_same_comp (comp_at h.shape k) cell.comp) (is_same_comp (comp_at h.shape v) cell.comp) refl refl
        e
    map_there cell at false e = absurd (cc e)

    go : (o : Option CellState) → cell_of h.shape m ≡ o → entry_refusal_in h.shape o k v ≡ None → MayCome h.shape m k
        × MayCome h.shape m v
    go None at e = absurd (cc e)
    go (Some cell) at e = map_there cell at (is_map cell.kind) e

pub plans-set : (h : HeapState) (g : GraphState) (s f : ℕ) (t : Option ℕ) (p : Place) (old value : Option Place)
    → Shows h g → IsWritable h s f t p
    → old ≡ field_at h.shape p f → value ≡ value_to_set h t
    → IsPlanIn h (cmd.Set s f t) (record { overwritten = old; wrapped = None; change = change.Field p f value })
plans-set h g s f t p old value shows may old_is value_is =
    record {
      accepted = λ j k. set_accepted h j s f t p k may;
      overwritten = old_is
          ∙ sym (ap (λ (o : Option Place). option_and_then (λ (q : Place). field_at h.shape q f) o) may.held);
      wrapped = refl;
      handed = refl;
      made = refl;
      replaced = old_is;
      overwritten_there = λ q e. shows.fields_held p q f (sym old_is ∙ e);
      overwritten_near = λ q e. plans.field p f (held_at h s p may.held) (sym old_is ∙ e);
      wrapped_there = none_there h;
      wrapped_near = none_near h;
      target = tt;
      only_wraps = λ plain. refl;
      handed_there = none_there h;
      able = λ room few. (
        has_field h g p f shows may.field,
        λ q e. value_comes h g s f t p q shows may (sym value_is ∙ e),
      );
      wakes = λ j k. refl;
      wants = λ none. absurd none;
      does = λ few answer new by. (
          let w : Writes h p f (value_to_set h t) new = subst (λ v. Writes h p f v new) value_is by.0 in (
            subst (λ (a : Reply). DoesStep h (cmd.Set s f t) (Ok a) new) (sym by.1)
                (does-set h new s f t p may w),
            rw may.held w,
          ));
    }

pub plans-put : (h : HeapState) (g : GraphState) (m k v : ℕ) (map key value : Place) (old : Option Place) → Shows h g
    → IsEntry h m k v map key value
    → old ≡ value_of h.shape.weak map key
    → IsPlanIn h (cmd.Put m k v) (record { overwritten = old; wrapped = None; change = change.Put map key value })
plans-put h g m k v map key value old shows i old_is = record {
  accepted = λ j s. (does-put_wanting h m k v map key value i j s).0;
  overwritten = old_is
      ∙ sym (ap (λ (o : Option Place). option_and_then (λ (y : Place). value_of h.shape.weak map y) o) i.key_held)
      ∙ sym (ap (λ (o : Option Place).
      option_and_then (λ (x : Place). option_and_then (λ (y : Place). value_of h.shape.weak x y) (reg_of h k)) o)
      i.map_held);
  wrapped = refl;
  handed = refl;
  made = refl;
  replaced = old_is;
  overwritten_there = λ q e. (shows.entries_held map key q (sym old_is ∙ e)).2;
  overwritten_near = λ q e. plans.value map key (held_at h m map i.map_held) (held_at h k key i.key_held)
      (sym old_is ∙ e);
  wrapped_there = none_there h;
  wrapped_near = none_near h;
  target = tt;
  only_wraps = λ plain. refl;
  handed_there = none_there h;
  able = λ room few. (let comes = entry_comes h g map key value shows i.allowed (held_at h k key i.key_held)
      (held_at h v value i.value_held) in
      (held_at h m map i.map_held, comes.0, comes.1));
  wakes = λ j s. refl;
  wants = λ may. refl;
  does = λ few answer new by. (
    subst (λ (a : Reply). DoesStep h (cmd.Put m k v) (Ok a) new) (sym by.1)
        (does-put h new m k v map key value i by.0),
    rw (i.map_held, i.key_held, i.value_held) by.0,
  );
}

-- what a `del` answers, by the value that was there
abbrev said : Option Place → Reply
said o = if is_some o then reply.Accepted else reply.Absent

pub plans-del : (h : HeapState) (g : GraphState) (m k : ℕ) (map key value : Place) (old : Option Place) → Shows h g
    → IsEntry h m k k map key value
    → old ≡ value_of h.shape.weak map key
    → IsPlanIn h (cmd.Del m k) (record { overwritten = old; wrapped = None; change = change.Del map key })
plans-del h g m k map key value old shows i old_is = record {
  accepted = λ j s. del_accepted h j m k map key value s i;
  overwritten = old_is
      ∙ sym (ap (λ (o : Option Place). option_and_then (λ (y : Place). value_of h.shape.weak map y) o) i.key_held)
      ∙ sym (ap (λ (o : Option Place).
      option_and_then (λ (x : Place). option_and_then (λ (y : Place). value_of h.shape.weak x y) (reg_of h k)) o)
      i.map_held);
  wrapped = refl;
  handed = refl;
  made = refl;
  replaced = old_is;
  overwritten_there = λ q e. (shows.entries_held map key q (sym old_is ∙ e)).2;
  overwritten_near = λ q e. plans.value map key (held_at h m map i.map_held) (held_at h k key i.key_held)
      (sym old_is ∙ e);
  wrapped_there = none_there h;
  wrapped_near = none_near h;
  target = tt;
  only_wraps = λ plain. refl;
  handed_there = none_there h;
  able = λ room few. (held_at h m map i.map_held, held_at h k key i.key_held);
  wakes = λ j s. refl;
  wants = λ none. absurd none;
  does = λ few answer new by. (
    subst (λ (a : Reply). DoesStep h (cmd.Del m k) (Ok a) new) (sym by.1)
        (does new by.0 (value_of h.shape.weak map key) refl),
    rw (i.map_held, i.key_held) by.0,
  );
}
  where
    does : (new : HeapState) → IsWithout h map key new → (o : Option Place) → value_of h.shape.weak map key ≡ o
        → DoesStep h (cmd.Del m k) (Ok (said o)) new
    does new by None is = does-del_absent h new m k map key value i is by
    does new by (Some v) is = does-del h new m k map key value v i is by

-- what a compartment sees of a register's cell, by the target
module _ (h : HeapState) (s : ℕ) (c : CompNo) (t : Place) (may : IsWrappable h s c t) where
  abbrev sees : Place → Option Place
  sees p = seen_from h.shape c (target_at h.shape p)

  seen_at : (o : Option Place) → seen_from h.shape c t ≡ o → sees may.place ≡ o
  seen_at o e = ap (seen_from h.shape c) (sym may.target_is) ∙ e

  handed_at : (o : Option Place) → seen_from h.shape c t ≡ o → o ≡ option_and_then sees (reg_of h s)
  handed_at o e = sym (ap (λ (x : Option Place). option_and_then sees x) may.held ∙ seen_at o e)

  wrapped_at : Some t ≡ option_map (target_at h.shape) (reg_of h s)
  wrapped_at = sym (ap (λ (x : Option Place). option_map (target_at h.shape) x) may.held
      ∙ ap (λ (x : Place). Some x) (sym may.target_is))

  made_at : (o : Option Place) → seen_from h.shape c t ≡ o
      → wrapped_in h (reg_of h s) c ≡ (if is_some o then None else slice_get h.shape.comps c.0)
  made_at o e = ap (λ (x : Option Place). wrapped_in h x c) may.held
      ∙ ap (λ (x : Option Place). if is_some x then None else slice_get h.shape.comps c.0) (seen_at o e)

-- what a `wrap` is about is near
near_target : (h : HeapState) (g : GraphState) (s : ℕ) (p : Place) → Shows h g → reg_of h s ≡ Some p
    → IsNear h.shape (target_at h.shape p)
near_target h g s p shows e = go (is_wrapper cell.0.kind) refl
  where
    cell : (d : CellState) × (cell_of h.shape p ≡ Some d)
    cell = present_cell h.shape p (reg_present h g s p shows e)

    target : (b : Bool) → is_wrapper cell.0.kind ≡ b
        → target_at h.shape p ≡ (if b then unwrap_or (field_of cell.0 0) p else p)
    target b w = ap (λ (o : Option CellState). target_in o p) cell.1
        ∙ ap (λ (x : Bool). if x then unwrap_or (field_of cell.0 0) p else p) w

    go : (b : Bool) → is_wrapper cell.0.kind ≡ b → IsNear h.shape (target_at h.shape p)
    go true w =
        let k = wrapper_there h g p cell.0 shows cell.1 w in
        let first : field_of cell.0 0 ≡ Some k.wraps.target =
        ap (λ (fs : List (Option Place)). joined (slice_get fs 0)) k.wraps.fields_is in
        let is : target_at h.shape p ≡ k.wraps.target = target true w
        ∙ ap (λ (o : Option Place). unwrap_or o p) first in
        subst (IsNear h.shape) (sym is) (plans.field p 0 (held_at h s p e) (ap (λ o. field_in o 0) cell.1 ∙ first))
    go false plain = subst (IsNear h.shape) (sym (target false plain)) (plans.held (held_at h s p e))

-- what a `wrap` wakes that hands a cell out: nothing, where that is the target itself, or the wrapper
wakes_seen : (h : HeapState) (r s : ℕ) (c : CompNo) (t v : Place) → IsWrappable h s c t → IsNear h.shape t
    → seen_from h.shape c t ≡ Some v
    → (IsWoken h (cmd.Wrap r s c) None × ForSome (Some v) (IsNear h.shape))
    ⊎ IsWoken h (cmd.Wrap r s c) (held_name h.shape (Some v))
wakes_seen h r s c t v may near seen = go (is_same_comp (comp_at h.shape t) c) refl seen
  where
    woken : (b : Bool) → is_same_comp (comp_at h.shape t) c ≡ b
        → IsWoken h (cmd.Wrap r s c) (if b then None else Some (Wrap c (number_at h.shape t)))
    woken b same g shows =
        subst (λ (x : Place). is_same_comp (comp_at h.shape x) c ≡ b
        → woken_by g (cmd.Wrap r s c) ≡ (if b then None else Some (Wrap c (number_at h.shape x)))) (sym may.target_is)
        (wrap_woken h g r s c may.place shows may.held may.there b) same

    go : (b : Bool) → is_same_comp (comp_at h.shape t) c ≡ b
        → (if b then Some t else place_of h.shape.wrappers c.0 (number_at h.shape t)) ≡ Some v
        → (IsWoken h (cmd.Wrap r s c) None × ForSome (Some v) (IsNear h.shape))
        ⊎ IsWoken h (cmd.Wrap r s c) (held_name h.shape (Some v))
    go true same e = inl (woken true same, λ p is. subst (IsNear h.shape) (cc (e, is)) near)
    go false same e = inr (λ g shows. woken false same g shows ∙ sym (shows.mapped c (number_at h.shape t) v e))

wakes_unseen : (h : HeapState) (r s : ℕ) (c : CompNo) (t : Place) → IsWrappable h s c t → seen_from h.shape c t ≡ None
    → IsWoken h (cmd.Wrap r s c) (Some (Wrap c (number_at h.shape t)))
wakes_unseen h r s c t may unseen = go (is_same_comp (comp_at h.shape t) c) refl unseen
  where
    go : (b : Bool) → is_same_comp (comp_at h.shape t) c ≡ b
        → (if b then Some t else place_of h.shape.wrappers c.0 (number_at h.shape t)) ≡ None
        → IsWoken h (cmd.Wrap r s c) (Some (Wrap c (number_at h.shape t)))
    go true same e = absurd (cc e)
    go false same e = λ g shows.
        subst (λ (x : Place). is_same_comp (comp_at h.shape x) c ≡ false
        → woken_by g (cmd.Wrap r s c) ≡ Some (Wrap c (number_at h.shape x))) (sym may.target_is)
        (wrap_woken h g r s c may.place shows may.held may.there false) same

pub plans-wrap_seen : (h : HeapState) (g : GraphState) (r s : ℕ) (c : CompNo) (t v : Place) → Shows h g
    → IsWrappable h s c t → IsPresent h.shape t → IsPresent h.shape v → seen_from h.shape c t ≡ Some v
    → IsPlanIn h (cmd.Wrap r s c) (register_plan r (Some v) true (Some t))
plans-wrap_seen h g r s c t v sound may there found seen = fetches h (cmd.Wrap r s c) r (Some v) (Some t)
    (record {
      stored_is = refl;
      wrapped_is = wrapped_at h s c t may;
      handed_is = handed_at h s c t may (Some v) seen;
      made_is = made_at h s c t may (Some v) seen;
      wrapped_there = λ p e. subst (IsPresent h.shape) (cc e) there;
      wrapped_near = λ p e. subst (IsNear h.shape) (cc (may.target_is, e)) (near_target h g s may.place sound may.held);
      only_wraps = λ plain. absurd (plain r s c refl);
      wakes = wakes_seen h r s c t v may
          (subst (IsNear h.shape) (sym may.target_is) (near_target h g s may.place sound may.held)) seen;
    })
    (λ p e. subst (IsPresent h.shape) (cc e) found)
    (λ g shows. wrap_seen h g r s c may.place shows may.held may.there v (seen_at h s c t may (Some v) seen))
    (wraps-seen h (with_reg h r (Some v)) r s c t v may seen refl)

pub plans-wrap_unseen : (h : HeapState) (g : GraphState) (r s : ℕ) (c : CompNo) (t : Place) (z : ℕ) → Shows h g
    → IsWrappable h s c t → IsPresent h.shape t → LiesIn h.shape c z
    → seen_from h.shape c t ≡ None
    → IsPlanIn h (cmd.Wrap r s c) (record { overwritten = None; wrapped = Some t; change = change.Wrapper r z c t })
plans-wrap_unseen h g r s c t z sound may there home unseen = record {
  accepted = λ g shows.
      (let u = wrap_unseen h g r s c may.place shows may.held may.there (seen_at h s c t may None unseen) in
      ap (λ (p : GraphState × Reply). refusal_in p.1) u.step);
  overwritten = refl;
  wrapped = wrapped_at h s c t may;
  handed = handed_at h s c t may None unseen;
  made = sym (made_at h s c t may None unseen ∙ home.home);
  replaced = refl;
  overwritten_there = none_there h;
  overwritten_near = none_near h;
  wrapped_there = λ p e. subst (IsPresent h.shape) (cc e) there;
  wrapped_near = λ p e. subst (IsNear h.shape) (cc (may.target_is, e)) (near_target h g s may.place sound may.held);
  target = refl;
  only_wraps = λ plain. absurd (plain r s c refl);
  wakes = wakes_unseen h r s c t may unseen;
  handed_there = none_there h;
  able = λ room few. (home, there, (unseen_absent h c t unseen).1, room);
  wants = λ may. refl;
  does = λ few answer new by. (
    subst (λ (a : Reply). DoesStep h (cmd.Wrap r s c) (Ok a) new) (sym by.1)
        (does-unseen_made h new r s c t may unseen by.0),
    wraps-unseen h new r s c t (Ok answer) may unseen by.0,
  );
}

-- what was looked up does not depend on colours and delayed cells
pub sound_coloured : (h : HeapState) (ds : List Bits) (d : Piles) → IsSound h → IsSound (with_marks h ds d)
sound_coloured h ds d s = (s.0, shows_coloured h ds d s.0 s.1)

pub hands_coloured : (h : HeapState) (ds : List Bits) (d : Piles) (c : ℕ → GraphCmd) (v : Option Place)
    → Hands h c (Ok v)
    → Hands (with_marks h ds d) c (Ok v)
hands_coloured h ds d c v hands r g s = hands r g (shows_before h ds d g s)

pub writable_coloured : (h : HeapState) (ds : List Bits) (d : Piles) (s f : ℕ) (t : Option ℕ) (p : Place)
    → IsWritable h s f t p
    → IsWritable (with_marks h ds d) s f t p
writable_coloured h ds d s f t p may =
    record { held = may.held; filled = may.filled; field = may.field; fits = may.fits }

pub wrappable_coloured : (h : HeapState) (ds : List Bits) (d : Piles) (s : ℕ) (c : CompNo) (t : Place)
    → IsWrappable h s c t
    → IsWrappable (with_marks h ds d) s c t
wrappable_coloured h ds d s c t may =
    record { place = may.place; held = may.held; target_is = may.target_is; there = may.there }

pub entry_coloured : (h : HeapState) (ds : List Bits) (d : Piles) (m k v : ℕ) (map key value : Place)
    → IsEntry h m k v map key value → IsEntry (with_marks h ds d) m k v map key value
entry_coloured h ds d m k v map key value i =
    record { map_held = i.map_held; key_held = i.key_held; value_held = i.value_held; allowed = i.allowed }
