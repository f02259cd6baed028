-- `wrap`.
use Rattle.std.proofs.Common.{◌≡◌, ◌≢◌, ◌+◌, ◌⊎◌, ◌&&◌, ℕ, zero, suc, Bool, true, false, cond, inl, inr, eqb, eqb-true}
use Rattle.std.proofs.Common.{eq-eqb, List, [], ◌∷◌, ◌++◌, Option, Some, None, Result, Ok, Err, OnOk, slice_get, refl}
use Rattle.std.proofs.Common.{sym, ap, subst, ◌∙◌, arith, Contains}
use Rattle.std.proofs.lemmas.Bool.{cases_eq}
use Rattle.gz_names.specs.declared.names.Name.{Name}
use Rattle.gz_names.specs.declared.names.Name.TheVariants.{Cell, Wrap}
use Rattle.gz_names.specs.declared.numbers.CompNo.{CompNo}
use Rattle.gz_names.specs.declared.numbers.Place.{Place}
use Rattle.gz_names.specs.declared.commands.GraphCmd.TheVariants as cmd
use Rattle.gz_names.specs.declared.replies.Reply.{Reply}
use Rattle.gz_names.specs.declared.replies.Reply.TheVariants as reply
use Rattle.gz_names.specs.declared.replies.CmdFault.{CmdFault}
use Rattle.arena_table.specs.Cells.{joined}
use Rattle.wrappers.specs.WrapperMaps.{list_of, place_of}
use Rattle.wrappers.specs.declared.wrapper_maps.WrapperKey.{WrapperKey}
use Rattle.colour_defs.specs.Graph.{GraphState}
use Rattle.colour_defs.specs.Step as step
use Rattle.colour_defs.specs.Step.{is_same_comp}
use Rattle.colour_defs.proofs.Lists.{any_append, any_push, any_push_cases, first_of_both, second_of_both, both_of}
use Rattle.colour_defs.proofs.Lists.{contains_cases, contains_head, contains_tail, nothing_in_none}
use Rattle.colour_defs.proofs.Names.{same_comp}
use Rattle.heap_core.specs.Shape.{IsPresent, cell_of, comp_at, held_name, name_at, zone_of}
use Rattle.heap_core.specs.Heap.{HeapState, with_reg}
use Rattle.heap_core.specs.Changes.{MakesWrapper, wrapper_cell}
use Rattle.heap_core.specs.Shows.{Shows}
use Rattle.heap_core.specs.Answers.{DoesStep}
use Rattle.heap_core.specs.Effects as effect
use Rattle.heap_core.specs.Lookups.{IsWrappable, number_at, seen_from, target_at}
use Rattle.heap_core.specs.Effects.{HoldsWrapper, Wraps}
use Rattle.heap_core.proofs.Places.{place-same, named_present, cell_named, cell_present}
use Rattle.heap_core.proofs.Stepping.{does-accepted}
use Rattle.heap_core.proofs.Held.{shows-with_reg}
use Rattle.heap_core.proofs.Added.{Adds, shows-added}
use Rattle.heap_core.proofs.Seen.{IsUnseen, wrap_unseen, wrapper_mapped, same_comp-is, same_comp-not}

-- what is in a list with one more at its end
push_cases : {X : Type 0} (xs : List X) (z x : X) → Contains (xs ++ z ∷ []) x → Contains xs x ⊎ (z ≡ x)
push_cases [] z x m = elim (contains_cases z [] x m) [ inl e ↦ inr e | inr t ↦ absurd (nothing_in_none x t) ]
push_cases (y ∷ xs) z x m = elim (contains_cases y (xs ++ z ∷ []) x m) [
  | inl e ↦ inl (subst (λ w. Contains (y ∷ xs) w) e (contains_head y xs))
  | inr t ↦ elim (push_cases xs z x t) [ inl k ↦ inl (contains_tail y xs x k) | inr e ↦ inr e ]
]

-- the test of a wrapper's compartment and target
abbrev is_wrapper_of : CompNo → ℕ → CompNo × ℕ → Bool
is_wrapper_of d t w = eqb w.0.0 d.0 && eqb w.1 t

pair_same : (c d : CompNo) (n t : ℕ) → c.0 ≡ d.0 → n ≡ t → Wrap c n ≡ Wrap d t
pair_same c d n t e f = ap (λ (x : CompNo). Wrap x n) (same_comp c d e) ∙ ap (λ (i : ℕ). Wrap d i) f

module _ (h k : HeapState) (g : GraphState) (zone : ℕ) (c : CompNo) (n : ℕ) (target p : Place) (s : Shows h g)
    (home : slice_get h.shape.comps c.0 ≡ Some zone) (target_is : name_at h.shape target ≡ Some (Cell n))
    (absent : place_of h.shape.wrappers c.0 n ≡ None) (w : MakesWrapper h zone c n target p k) where
  abbrev graph : GraphState
  graph = record g { wrappers = g.wrappers ++ (c, n) ∷ [] }

  cells_same : (q : Place) → cell_of k.shape q ≡ cell_of w.made.shape q
  cells_same q = ap (λ (x : HeapState). cell_of x.shape q) w.rest

  zones_same : (q : Place) → zone_of k.shape q ≡ zone_of w.made.shape q
  zones_same q = ap (λ (x : HeapState). zone_of x.shape q) w.rest

  -- the new place of the key alone
  key_cases : (d : CompNo) (t : ℕ) → ((c ≡ d) × (n ≡ t) × (place_of k.shape.wrappers d.0 t ≡ Some p))
      ⊎ (place_of k.shape.wrappers d.0 t ≡ place_of h.shape.wrappers d.0 t)
  key_cases d t = go (eqb d.0 c.0 && eqb t n) refl (w.found d.0 t)
    where
      go : (b : Bool) → (eqb d.0 c.0 && eqb t n) ≡ b
          → place_of k.shape.wrappers d.0 t ≡ cond (eqb d.0 c.0 && eqb t n) (Some p) (place_of h.shape.wrappers d.0 t)
          → ((c ≡ d) × (n ≡ t) × (place_of k.shape.wrappers d.0 t ≡ Some p))
          ⊎ (place_of k.shape.wrappers d.0 t ≡ place_of h.shape.wrappers d.0 t)
      go true e f =
          let a : d.0 ≡ c.0 = eqb-true d.0 c.0 (first_of_both (eqb d.0 c.0) (eqb t n) e) in
          let b : t ≡ n = eqb-true t n (second_of_both (eqb d.0 c.0) (eqb t n) e) in
          inl (same_comp c d (sym a), sym b, f ∙ ap (λ (x : Bool). cond x (Some p) (place_of h.shape.wrappers d.0 t)) e)
      go false e f = inr (f ∙ ap (λ (x : Bool). cond x (Some p) (place_of h.shape.wrappers d.0 t)) e)

  fresh : (q : Place) → name_at h.shape q ≡ Some (Wrap c n) → ⊥
  fresh q e = let there = wrapper_mapped h g c n q s e in cc (absent, there)

  at_home : (z : ℕ) (e : WrapperKey × Place) → Contains (list_of k.shape.wrappers z) e
      → slice_get h.shape.comps e.0.comp ≡ Some z
  at_home z e m = elim (cases_eq z zone) [
    | inl is ↦ (let mine : Contains (list_of h.shape.wrappers zone ++ (record { comp = c.0; target = n }, p) ∷ []) e =
        subst (λ (xs : List (WrapperKey × Place)). Contains xs e) w.listed
        (subst (λ (y : ℕ). Contains (list_of k.shape.wrappers y) e) is m) in
        elim (push_cases (list_of h.shape.wrappers zone) (record { comp = c.0; target = n }, p) e mine) [
          | inl old ↦ s.maps_at_home zone e old ∙ ap (λ (y : ℕ). Some y) (sym is)
          | inr new ↦ ap (λ (x : WrapperKey × Place). slice_get h.shape.comps x.0.comp) (sym new) ∙ home
              ∙ ap (λ (y : ℕ). Some y) (sym is)
        ])
    | inr ne ↦ s.maps_at_home z e (subst (λ (xs : List (WrapperKey × Place)). Contains xs e) (w.others z ne) m)
  ]

  field_there : (f : ℕ) (q : Place) → joined (slice_get (Some target ∷ []) f) ≡ Some q → IsPresent h.shape q
  field_there zero q e = named_present h.shape q (Cell n) (ap (name_at h.shape) (cc (sym e)) ∙ target_is)
  field_there (suc f) q e = absurd (cc e)

  here : place_of k.shape.wrappers c.0 n ≡ Some p
  here = w.found c.0 n ∙ ap (λ (b : Bool). cond b (Some p) (place_of h.shape.wrappers c.0 n))
      (both_of (eqb c.0 c.0) (eqb n n) (eq-eqb c.0 c.0 refl) (eq-eqb n n refl))

  adds : Adds h k g graph zone p (wrapper_cell c n target)
  adds = record {
    zones_same = refl;
    comps_same = refl;
    registers_same = refl;
    slots_same = refl;
    entries_same = refl;
    states_are = ap (λ (x : HeapState). x.shape.states) w.rest ∙ ap (λ (x : HeapState). x.shape.states) w.makes.rest;
    comps_are = ap (λ (x : HeapState). x.shape.comps) w.rest ∙ ap (λ (x : HeapState). x.shape.comps) w.makes.rest;
    regs_are = ap (λ (x : HeapState). x.shape.regs) w.rest ∙ ap (λ (x : HeapState). x.shape.regs) w.makes.rest;
    slots_are = ap (λ (x : HeapState). x.shape.slots) w.rest ∙ ap (λ (x : HeapState). x.shape.slots) w.makes.rest;
    weak_is = ap (λ (x : HeapState). x.shape.weak) w.rest ∙ ap (λ (x : HeapState). x.shape.weak) w.makes.rest;
    absent = w.makes.free;
    cells_are = λ q. cells_same q ∙ w.makes.cells q;
    zone_is = zones_same p ∙ w.makes.zone_is;
    zones_are = λ q lt. zones_same q ∙ w.makes.zones q lt;
    at_home = home;
    fresh = fresh;
    objects_kept = λ i o e. e;
    wrappers_kept = λ d t e. any_append (is_wrapper_of d t) g.wrappers ((c, n) ∷ []) e;
    places_kept = λ d t q e. elim (key_cases d t) [
      | inl is ↦ (let old : place_of h.shape.wrappers c.0 n ≡ Some q =
          ap (λ (x : CompNo). place_of h.shape.wrappers x.0 n) is.0 ∙ ap (place_of h.shape.wrappers d.0) is.1 ∙ e in
          absurd (cc (absent, old)))
      | inr same ↦ same ∙ e
    ];
    objects_new = λ i o e. inl e;
    wrappers_new = λ d t e. elim (any_push_cases (is_wrapper_of d t) g.wrappers (c, n) e) [
      | inl old ↦ inl old
      | inr is ↦ inr (pair_same c d n t (eqb-true c.0 d.0 (first_of_both (eqb c.0 d.0) (eqb n t) is))
          (eqb-true n t (second_of_both (eqb c.0 d.0) (eqb n t) is)))
    ];
    places_new = λ d t q e. elim (key_cases d t) [
      | inl is ↦ inr (cc (sym e ∙ is.2), pair_same c d n t (ap (λ (x : CompNo). x.0) is.0) is.1)
      | inr same ↦ inl (sym same ∙ e)
    ];
    maps_at_home = at_home;
    fields_there = field_there;
    stands = λ named. record {
      target = target;
      kind_is = refl;
      comp_is = refl;
      fields_is = refl;
      target_is = named target (Cell n) target_is;
      known = any_push (is_wrapper_of c n) g.wrappers (c, n)
          (both_of (eqb c.0 c.0) (eqb n n) (eq-eqb c.0 c.0 refl) (eq-eqb n n refl));
      mapped = here;
    };
    sized = refl;
    few_fields = omega arith;
    objects_made = s.objects_made
        ∙ sym (ap (λ (x : HeapState). x.shape.objects) w.rest ∙ ap (λ (x : HeapState). x.shape.objects) w.makes.rest);
    few_objects = (
        let all : k.made ≡ h.made + 1 = ap (λ (x : HeapState). x.made) w.rest
        ∙ ap (λ (x : HeapState). x.made) w.makes.rest in
        let same : k.shape.objects ≡ h.shape.objects = ap (λ (x : HeapState). x.shape.objects) w.rest
        ∙ ap (λ (x : HeapState). x.shape.objects) w.makes.rest in
        let old = s.few_objects in omega arith);
  }

  pub shows-wrapper : (r : ℕ)
      → Shows (with_reg k r (Some p))
      (record (step.with_register g r (Some (Wrap c n))) { wrappers = g.wrappers ++ (c, n) ∷ [] })
  shows-wrapper r =
      let cell : cell_of k.shape p ≡ Some (wrapper_cell c n target) = cells_same p ∙ w.makes.cells p
      ∙ ap (λ (b : Bool). cond b (Some (wrapper_cell c n target)) (cell_of h.shape p)) (place-same p) in
      let name : held_name k.shape (Some p) ≡ Some (Wrap c n) = cell_named k.shape p (wrapper_cell c n target) cell in
      subst (λ (x : Option Name). Shows (with_reg k r (Some p)) (step.with_register graph r x)) name
      (shows-with_reg k graph r (Some p) (shows-added h k g graph zone p (wrapper_cell c n target) s adds)
      (λ q e. (let same : p ≡ q = cc e in
      subst (IsPresent k.shape) same (cell_present k.shape p (wrapper_cell c n target) cell))))

-- all wrappers of a compartment are in its zone
pub one_zone : (h : HeapState) (g : GraphState) (c : CompNo) (zone z : ℕ) (e : WrapperKey × Place) → Shows h g
    → slice_get h.shape.comps c.0 ≡ Some zone → Contains (list_of h.shape.wrappers z) e → e.0.comp ≡ c.0 → z ≡ zone
one_zone h g c zone z e s home m is = let a = s.maps_at_home z e m in let b : slice_get h.shape.comps e.0.comp
    ≡ Some zone = ap (slice_get h.shape.comps) is ∙ home in cc (a, b)

-- what a compartment sees is present
pub seen_present : (h : HeapState) (g : GraphState) (c : CompNo) (t v : Place) → Shows h g → IsPresent h.shape t
    → seen_from h.shape c t ≡ Some v → IsPresent h.shape v
seen_present h g c t v s there seen = go (is_same_comp (comp_at h.shape t) c) seen
  where
    go : (b : Bool) → cond b (Some t) (place_of h.shape.wrappers c.0 (number_at h.shape t)) ≡ Some v
        → IsPresent h.shape v
    go true e = subst (IsPresent h.shape) (cc e) there
    go false e = named_present h.shape v (Wrap c (number_at h.shape t)) (s.mapped c (number_at h.shape t) v e)

pub wraps-seen : (h k : HeapState) (r s : ℕ) (c : CompNo) (t v : Place) → IsWrappable h s c t
    → seen_from h.shape c t ≡ Some v → k ≡ with_reg h r (Some v) → Wraps h r s c k
wraps-seen h k r s c t v may seen rest = go (is_same_comp (comp_at h.shape (target_at h.shape may.place)) c) refl
    (ap (seen_from h.shape c) (sym may.target_is) ∙ seen)
  where
    go : (b : Bool) → is_same_comp (comp_at h.shape (target_at h.shape may.place)) c ≡ b
        → cond b (Some (target_at h.shape may.place))
        (place_of h.shape.wrappers c.0 (number_at h.shape (target_at h.shape may.place))) ≡ Some v → Wraps h r s c k
    go true same e = effect.itself may.place may.held
        (same_comp-is (comp_at h.shape (target_at h.shape may.place)) c same)
        (rest ∙ ap (λ (o : Option Place). with_reg h r o) (sym e))
    go false same e = effect.found may.place v may.held
        (same_comp-not (comp_at h.shape (target_at h.shape may.place)) c same) e rest

-- where it sees nothing, its wrapper is made, or memory is wanted
pub unseen_absent : (h : HeapState) (c : CompNo) (t : Place) → seen_from h.shape c t ≡ None
    → (comp_at h.shape t ≢ Some c) × (place_of h.shape.wrappers c.0 (number_at h.shape t) ≡ None)
unseen_absent h c t e = go (is_same_comp (comp_at h.shape t) c) refl e
  where
    go : (b : Bool) → is_same_comp (comp_at h.shape t) c ≡ b
        → cond b (Some t) (place_of h.shape.wrappers c.0 (number_at h.shape t)) ≡ None → (comp_at h.shape t ≢ Some c)
        × (place_of h.shape.wrappers c.0 (number_at h.shape t) ≡ None)
    go true same e = absurd (cc e)
    go false same e = (same_comp-not (comp_at h.shape t) c same, e)

pub does-unseen_made : (h k : HeapState) (r s : ℕ) (c : CompNo) (t : Place) → IsWrappable h s c t
    → seen_from h.shape c t ≡ None → HoldsWrapper h r c t k
    → DoesStep h (cmd.Wrap r s c) (Ok (reply.Named (Wrap c (number_at h.shape t)))) k
does-unseen_made h k r s c t may unseen made =
    does-accepted h (cmd.Wrap r s c) (reply.Named (Wrap c (number_at h.shape t))) k (λ g shows. (
    let u : IsUnseen h g r s c t = subst (λ (x : Place). IsUnseen h g r s c x) (sym may.target_is)
    (wrap_unseen h g r s c may.place shows may.held may.there
    (ap (seen_from h.shape c) (sym may.target_is) ∙ unseen)) in
    record {
      after = record (step.with_register g r (Some (Wrap c (number_at h.shape t)))) {
        wrappers =
            g.wrappers ++ (c, number_at h.shape t) ∷ [];
      };
      step = u.step;
      sure = refl;
      shows = subst (λ (x : HeapState).
          Shows x (record (step.with_register g r (Some (Wrap c (number_at h.shape t)))) {
            wrappers =
                g.wrappers ++ (c, number_at h.shape t) ∷ [];
          })) (sym made.rest)
          (shows-wrapper h made.between g made.zone c (number_at h.shape t) t made.wrapper shows made.home u.name_is
          u.absent made.makes r);
    }))

pub wraps-unseen : (h k : HeapState) (r s : ℕ) (c : CompNo) (t : Place) (result : Result Reply CmdFault)
    → IsWrappable h s c t → seen_from h.shape c t ≡ None → OnOk result (HoldsWrapper h r c t k)
    → OnOk result (Wraps h r s c k)
wraps-unseen h k r s c t (Err why) may unseen holds = tt
wraps-unseen h k r s c t (Ok answer) may unseen holds =
    let u = unseen_absent h c (target_at h.shape may.place) (ap (seen_from h.shape c) (sym may.target_is) ∙ unseen) in
    effect.made may.place may.held u.0 u.1 (subst (λ (x : Place). HoldsWrapper h r c x k) may.target_is holds)
