-- What is known of a graph after a command.
use Rattle.std.proofs.Common.{◌≡◌, ℕ, ◌⊎◌, inl, inr, List, [], ◌∷◌, ◌++◌, length, true, refl, sym, ap, subst, ◌∙◌}
use Rattle.std.proofs.Common.{eqb-true, Option, Some, None, Contains, slice_get, slice_set, eqb}
use Rattle.std.specs.Option.{option_flatten}
use Rattle.gz_names.specs.declared.names.Name.{Name}
use Rattle.gz_names.specs.declared.names.Name.TheVariants.{Cell, Wrap}
use Rattle.gz_names.specs.declared.numbers.CompNo.{CompNo}
use Rattle.colour_defs.specs.declared.graph.Object.{Object}
use Rattle.colour_defs.specs.Graph.{GraphState, object_of, register_cell, slot_cell, has_wrapper, value_of, comp_of}
use Rattle.colour_defs.specs.Graph.{comp_of_object, zone_of, zone_of_comp}
use Rattle.colour_defs.specs.Closure.{HasEdge, HoldsInField}
use Rattle.colour_defs.specs.Step.{fits_comp, with_field}
use Rattle.colour_defs.specs.Laws.{IsSameComp, IsWellFormed}
use Rattle.colour_defs.proofs.Lists.{set_cases, get_append, get_push_cases, get_set_cases, contains_set_cases}
use Rattle.colour_defs.proofs.Lists.{second_of_both, any_append, any_push_cases}
use Rattle.colour_defs.proofs.Entries.{put_cases, put_other, del_cases, del_keeps}
use Rattle.colour_defs.proofs.Effects.{Waking, Source, register, woken, From, IsHeld, EntryOk, Effect, keeps, zones}
use Rattle.colour_defs.proofs.Effects.{comps, makes, takes, wraps, writes, slots, puts, dels, is_comp}

-- what is in the graph after a command was in the graph before, or comes from a source; and what stays
pub record Follows (g : GraphState) (w : Waking) (h : GraphState) : Type 0 where
  pub registers : (r : ℕ) (x : Name) → register_cell h r ≡ Some x → Source g w x
  pub slots : (s : ℕ) (x : Name) → slot_cell h s ≡ Some x → (slot_cell g s ≡ Some x) ⊎ Source g w x
  pub edges : (x y : Name) → HasEdge h x y → HasEdge g x y ⊎ Source g w y
  pub fields : (n : ℕ) (y : Name) → HasEdge h (Cell n) y → HasEdge g (Cell n) y ⊎ IsSameComp g (Cell n) y
  pub entries : (m k v : Name) → value_of h m k ≡ Some v → (value_of g m k ≡ Some v) ⊎ (EntryOk g m k v × Source g w v)
  pub kept : (m k v : Name) → value_of g m k ≡ Some v → ((u : Name) × (value_of h m k ≡ Some u)) ⊎ IsHeld g k
  pub comps : (x : Name) (c : CompNo) → comp_of g x ≡ Some c → comp_of h x ≡ Some c
  pub comp_list : (n z : ℕ) → slice_get g.comps n ≡ Some z → slice_get h.comps n ≡ Some z
  pub wrapped : (c : CompNo) (t : ℕ) → has_wrapper g c t ≡ true → has_wrapper h c t ≡ true

written_regs : (g : GraphState) (w : Waking) (r : ℕ) (v : Option Name) → From g w v → (s : ℕ) (x : Name)
    → register_cell (record g { registers = slice_set g.registers r v }) s ≡ Some x → Source g w x
written_regs g w r v src s x e =
    elim (set_cases g.registers r s v) [ inl is ↦ src x (sym is ∙ e) | inr is ↦ register s (sym is ∙ e) ]

-- an object's part of an edge, and of a compartment, after one more was made
pushed_edge : (os : List (Option Object)) (o : Object) (n : ℕ) (y : Name) → (Contains o.fields (Some y) → ⊥)
    → HoldsInField (option_flatten (slice_get (os ++ Some o ∷ []) n)) y
    → HoldsInField (option_flatten (slice_get os n)) y
pushed_edge os o n y nothing h = elim (get_push_cases os (Some o) n) [
  | inl e ↦ subst (λ z. HoldsInField (option_flatten z) y) e h
  | inr p ↦ let there : HoldsInField (Some o) y = subst (λ z. HoldsInField (option_flatten z) y) p.1 h in
      absurd (nothing there)
]

pushed_comp : (os : List (Option Object)) (o : Option Object) (n : ℕ) (c : CompNo)
    → comp_of_object (option_flatten (slice_get os n)) ≡ Some c
    → comp_of_object (option_flatten (slice_get (os ++ o ∷ []) n)) ≡ Some c
pushed_comp os o n c e = go (slice_get os n) refl e
  where
    go : (v : Option (Option Object)) → slice_get os n ≡ v → comp_of_object (option_flatten v) ≡ Some c
        → comp_of_object (option_flatten (slice_get (os ++ o ∷ []) n)) ≡ Some c
    go None at e = absurd (cc e)
    go (Some p) at e = subst (λ z. comp_of_object (option_flatten z) ≡ Some c) (sym (get_append os (o ∷ []) n p at)) e

made_comp : (g : GraphState) (r : ℕ) (o : Object) (x : Name) (c : CompNo) → comp_of g x ≡ Some c
    → comp_of (record g {
      objects = g.objects ++ Some o ∷ [];
      registers = slice_set g.registers r (Some (Cell (length g.objects)));
    }) x ≡ Some c
made_comp g r o (Cell n) c e = pushed_comp g.objects (Some o) n c e
made_comp g r o (Wrap d t) c e = e

pub made_edge : (g : GraphState) (w : Waking) (r : ℕ) (o : Object) → ((y : Name) → Contains o.fields (Some y) → ⊥)
    → (x y : Name) → HasEdge
    (record g {
      objects = g.objects ++ Some o ∷ [];
      registers = slice_set g.registers r (Some (Cell (length g.objects)));
    }) x y → HasEdge g x y
made_edge g w r o nothing (Cell n) y h = pushed_edge g.objects o n y (nothing y) h
made_edge g w r o nothing (Wrap c t) y h = h

-- an object after a write to a field
written_comp : (g : GraphState) (n : ℕ) (o : Object) (f : ℕ) (v : Option Name) → object_of g n ≡ Some o
    → (x : Name) (c : CompNo) → comp_of g x ≡ Some c → comp_of (with_field g n o f v) x ≡ Some c
written_comp g n o f v at (Wrap d t) c e = e
written_comp g n o f v at (Cell m) c e =
    elim (get_set_cases g.objects n m (Some (record o { fields = slice_set o.fields f v }))) [
      | inl is ↦ subst (λ z. comp_of_object (option_flatten z) ≡ Some c) (sym is) e
      | inr p ↦
          let was : comp_of_object (Some o) ≡ Some c =
          subst (λ z. comp_of_object z ≡ Some c) at (subst (λ z. comp_of_object (object_of g z) ≡ Some c) (sym p.0) e)
          in
          subst (λ z. comp_of_object (option_flatten z) ≡ Some c) (sym p.1) was
    ]

written_field : (g : GraphState) (n : ℕ) (o : Object) (f : ℕ) (v : Option Name) → object_of g n ≡ Some o
    → (m : ℕ) (y : Name) → HasEdge (with_field g n o f v) (Cell m) y → HasEdge g (Cell m) y ⊎ ((n ≡ m) × (v ≡ Some y))
written_field g n o f v at m y h =
    elim (get_set_cases g.objects n m (Some (record o { fields = slice_set o.fields f v }))) [
      | inl is ↦ inl (subst (λ z. HoldsInField (option_flatten z) y) is h)
      | inr p ↦
          let there : HoldsInField (Some (record o { fields = slice_set o.fields f v })) y =
          subst (λ z. HoldsInField (option_flatten z) y) p.1 h in
          elim (contains_set_cases o.fields f v (Some y) there) [
            | inl c ↦ inl (subst (λ z. HoldsInField (object_of g z) y) p.0 (subst (λ z. HoldsInField z y) (sym at) c))
            | inr e ↦ inr (p.0, e)
          ]
    ]

written_edge : (g : GraphState) (w : Waking) (n : ℕ) (o : Object) (f : ℕ) (v : Option Name) → object_of g n ≡ Some o
    → From g w v → (x y : Name) → HasEdge (with_field g n o f v) x y → HasEdge g x y ⊎ Source g w y
written_edge g w n o f v at src (Wrap c t) y h = inl h
written_edge g w n o f v at src (Cell m) y h =
    elim (written_field g n o f v at m y h) [ inl e ↦ inl e | inr p ↦ inr (src y p.1) ]

fits_is : (g : GraphState) (c : CompNo) (v : Option Name) (y : Name) → v ≡ Some y → fits_comp g c v ≡ true
    → comp_of g y ≡ Some c
fits_is g c None y e fits = absurd (cc e)
fits_is g c (Some x) y e fits = let q : x ≡ y = cc e in
    subst (λ z. comp_of g z ≡ Some c) q (is_comp (comp_of g x) c fits)

written_same : (g : GraphState) (n : ℕ) (o : Object) (f : ℕ) (v : Option Name) → object_of g n ≡ Some o
    → fits_comp g o.comp v ≡ true → (m : ℕ) (y : Name) → HasEdge (with_field g n o f v) (Cell m) y
    → HasEdge g (Cell m) y ⊎ IsSameComp g (Cell m) y
written_same g n o f v at fits m y h = elim (written_field g n o f v at m y h) [
  | inl e ↦ inl e
  | inr p ↦ inr (
    o.comp,
    subst (λ z. comp_of_object (object_of g z) ≡ Some o.comp) p.0 (ap comp_of_object at),
    fits_is g o.comp v y p.1 fits,
  )
]

wrapped_edge : (g : GraphState) (w : Waking) (r : ℕ) (c : CompNo) (t : ℕ) → Source g w (Cell t) → (x y : Name)
    → HasEdge (record g { registers = slice_set g.registers r (Some (Wrap c t)); wrappers = g.wrappers ++ (c, t) ∷ [] })
    x y → HasEdge g x y ⊎ Source g w y
wrapped_edge g w r c t src (Cell n) y h = inl h
wrapped_edge g w r c t src (Wrap d s) y h = elim (any_push_cases _ g.wrappers (c, t) h.1) [
  | inl old ↦ inl (h.0, old)
  | inr new ↦
      let same : t ≡ s = eqb-true _ _ (second_of_both (eqb c.0 d.0) (eqb t s) new) in
      inr (subst (λ z. Source g w z) (ap (λ n. Cell n) same ∙ h.0) src)
]

unchanged_comps : (g : GraphState) (rs ss : List (Option Name)) (x : Name) (c : CompNo) → comp_of g x ≡ Some c
    → comp_of (record g { registers = rs; slots = ss }) x ≡ Some c
unchanged_comps g rs ss (Cell n) c e = e
unchanged_comps g rs ss (Wrap d t) c e = e

pub follows : (g : GraphState) (w : Waking) {h : GraphState} → Effect g w h → Follows g w h
follows g w keeps = record {
  registers = λ r x e. register r e;
  slots = λ s x e. inl e;
  edges = λ x y e. inl e;
  fields = λ n y e. inl e;
  entries = λ m k v e. inl e;
  kept = λ m k v e. inl (v, e);
  comps = λ x c e. e;
  comp_list = λ n z e. e;
  wrapped = λ c t e. e;
}
follows g w (zones n) = record {
  registers = λ r x e. register r e;
  slots = λ s x e. inl e;
  edges = λ x y e. inl e;
  fields = λ n y e. inl e;
  entries = λ m k v e. inl e;
  kept = λ m k v e. inl (v, e);
  comps = λ x c e. e;
  comp_list = λ n z e. e;
  wrapped = λ c t e. e;
}
follows g w (comps z) = record {
  registers = λ r x e. register r e;
  slots = λ s x e. inl e;
  edges = λ x y e. inl e;
  fields = λ n y e. inl e;
  entries = λ m k v e. inl e;
  kept = λ m k v e. inl (v, e);
  comps = λ x c e. e;
  comp_list = λ n y e. get_append g.comps (z ∷ []) n y e;
  wrapped = λ c t e. e;
}
follows g w (makes r o nothing is) = record {
  registers = written_regs g w r (Some (Cell (length g.objects))) (λ y e. woken (is ∙ e));
  slots = λ s x e. inl e;
  edges = λ x y e. inl (made_edge g w r o nothing x y e);
  fields = λ n y e. inl (made_edge g w r o nothing (Cell n) y e);
  entries = λ m k v e. inl e;
  kept = λ m k v e. inl (v, e);
  comps = made_comp g r o;
  comp_list = λ n z e. e;
  wrapped = λ c t e. e;
}
follows g w (takes r x src) =
    record {
      registers = written_regs g w r x src;
      slots = λ s x e. inl e;
      edges = λ x y e. inl e;
      fields = λ n y e. inl e;
      entries = λ m k v e. inl e;
      kept = λ m k v e. inl (v, e);
      comps = λ x c e. e;
      comp_list = λ n z e. e;
      wrapped = λ c t e. e;
    }
follows g w (wraps r c t is src) = record {
  registers = written_regs g w r (Some (Wrap c t)) (λ y e. woken (is ∙ e));
  slots = λ s x e. inl e;
  edges = wrapped_edge g w r c t src;
  fields = λ n y e. inl e;
  entries = λ m k v e. inl e;
  kept = λ m k v e. inl (v, e);
  comps = λ x c e. e;
  comp_list = λ n z e. e;
  wrapped = λ d s e. any_append _ g.wrappers ((c, t) ∷ []) e;
}
follows g w (writes n o f v at src fits) = record {
  registers = λ r x e. register r e;
  slots = λ s x e. inl e;
  edges = written_edge g w n o f v at src;
  fields = written_same g n o f v at fits;
  entries = λ m k v e. inl e;
  kept = λ m k v e. inl (v, e);
  comps = written_comp g n o f v at;
  comp_list = λ n z e. e;
  wrapped = λ c t e. e;
}
follows g w (slots k x src) = record {
  registers = λ r x e. register r e;
  slots = λ s y e. elim (set_cases g.slots k s x) [ inl is ↦ inr (src y (sym is ∙ e)) | inr is ↦ inl (sym is ∙ e) ];
  edges = λ x y e. inl e;
  fields = λ n y e. inl e;
  entries = λ m k v e. inl e;
  kept = λ m k v e. inl (v, e);
  comps = λ x c e. e;
  comp_list = λ n z e. e;
  wrapped = λ c t e. e;
}
follows g w (puts m k v ok src) = record {
  registers = λ r x e. register r e;
  slots = λ s x e. inl e;
  edges = λ x y e. inl e;
  fields = λ n y e. inl e;
  entries = λ a b u e. elim (put_cases g.entries m k v a b u e) [
    | inl old ↦ inl old
    | inr p
        ↦ inr (subst (λ z. EntryOk g z b u × Source g w u) p.0
        (subst (λ z. EntryOk g m z u × Source g w u) p.1 (subst (λ z. EntryOk g m k z × Source g w z) p.2 (ok, src))))
  ];
  kept = λ a b u e. elim (put_other g.entries m k v a b) [
    | inl same ↦ inl (u, same ∙ e)
    | inr p
        ↦ inr (subst (λ z. IsHeld g z) p.1 ok.key_held)
  ];
  comps = λ x c e. e;
  comp_list = λ n z e. e;
  wrapped = λ c t e. e;
}
follows g w (dels m k held) =
    record {
      registers = λ r x e. register r e;
      slots = λ s x e. inl e;
      edges = λ x y e. inl e;
      fields = λ n y e. inl e;
      entries = λ a b u e. inl (del_keeps g.entries m k a b u e);
      kept = λ a b u e. elim (del_cases g.entries m k a b) [
        | inl same ↦ inl (u, same ∙ e)
        | inr p
            ↦ inr (subst (λ z. IsHeld g z) p.1 held)
      ];
      comps = λ x c e. e;
      comp_list = λ n z e. e;
      wrapped = λ c t e. e;
    }

-- a zone that is known stays
pub zone_stays : (g : GraphState) (w : Waking) (h : GraphState) → Follows g w h → (x : Name) (z : ℕ)
    → zone_of g x ≡ Some z → zone_of h x ≡ Some z
zone_stays g w h f x z e = go (comp_of g x) refl e
  where
    go : (o : Option CompNo) → comp_of g x ≡ o → zone_of_comp g o ≡ Some z → zone_of h x ≡ Some z
    go None at e = absurd (cc e)
    go (Some c) at e = ap (zone_of_comp h) (f.comps x c at) ∙ f.comp_list c.0 z e

same_stays : (g : GraphState) (w : Waking) (h : GraphState) → Follows g w h → (x y : Name) → IsSameComp g x y
    → IsSameComp h x y
same_stays g w h f x y s = (s.0, f.comps x s.0 s.1, f.comps y s.0 s.2)

-- the target of each wrapper that a register holds was made
abbrev pub AreTargetsMade : GraphState → Type 0
AreTargetsMade g = (r : ℕ) (c : CompNo) (t : ℕ) → register_cell g r ≡ Some (Wrap c t)
    → (d : CompNo) × (comp_of g (Cell t) ≡ Some d)

pub well_formed_stays : (g : GraphState) (w : Waking) (h : GraphState) → Follows g w h → AreTargetsMade g
    → IsWellFormed g → IsWellFormed h
well_formed_stays g w h f made ok = record {
  fields = λ n y e. elim (f.fields n y e) [
    | inl old ↦ same_stays g w h f (Cell n) y (ok.fields n y old)
    | inr s
        ↦ same_stays g w h f (Cell n) y s
  ];
  keys = λ m k v e. elim (f.entries m k v e) [
    | inl old ↦ same_stays g w h f m k (ok.keys m k v old)
    | inr s
        ↦ same_stays g w h f m k s.0.key
  ];
  values = λ m k v e. elim (f.entries m k v e) [
    | inl old ↦ same_stays g w h f m v (ok.values m k v old)
    | inr s
        ↦ same_stays g w h f m v s.0.value
  ];
  no_wrappers = λ m k v e. elim (f.entries m k v e) [ inl old ↦ ok.no_wrappers m k v old | inr s ↦ s.0.map_cell ];
  delegates = λ m v c t e. elim (f.entries m (Wrap c t) v e) [
    | inl old ↦ let d = ok.delegates m v c t old in (d.0, f.comps (Cell t) d.0 d.1)
    | inr s ↦ let d = made s.0.key_held.0 c t s.0.key_held.1 in (d.0, f.comps (Cell t) d.0 d.1)
  ];
}
