-- What was black before a command is closed in the graph after it: new edges and entries lead to what registers lead
-- to, but for those of a wrapper that the command makes.
use Rattle.std.proofs.Common.{◌≡◌, ◌⊎◌, ◌∙◌, ◌++◌, ℕ, inl, inr, Bool, true, false, [], ◌∷◌, length, Option, Some, None}
use Rattle.std.proofs.Common.{ap, eqb, eqb-true, nat_lt, refl, slice_set, subst, sym}
use Rattle.gz_names.specs.declared.names.Name.{Name}
use Rattle.gz_names.specs.declared.names.Name.TheVariants.{Cell, Wrap}
use Rattle.gz_names.specs.declared.numbers.CompNo.{CompNo}
use Rattle.gz_names.specs.declared.commands.GraphCmd.{GraphCmd}
use Rattle.gz_names.specs.declared.commands.GraphCmd.TheVariants as cmd
use Rattle.gz_names.specs.declared.replies.Reply.{Reply}
use Rattle.colour_defs.specs.declared.graph.Object.{Object}
use Rattle.colour_defs.specs.Closure.{HasEdge}
use Rattle.colour_defs.specs.Graph.{GraphState, IsInZones, has_wrapper, is_among, is_in_zones, register_cell, value_of}
use Rattle.colour_defs.specs.Graph.{zone_of}
use Rattle.colour_defs.specs.Laws.{HasSomeZone, IsMade, IsSameComp, IsValid, IsValidPreparing, IsValidSettled}
use Rattle.colour_defs.specs.Step.{is_in_comp, make_object, new_map, new_object, step_of, take_wrapper, target_of}
use Rattle.colour_defs.specs.Step.{unwrap_from, with_register, wrap_from}
use Rattle.colour_defs.specs.World.{Has, IsLeftOut, IsPresent, Preparation, World}
use Rattle.colour_defs.proofs.Carried.{from_source, made_zone}
use Rattle.colour_defs.proofs.Effects.{EntryOk, HoldsNothing, Source, Waking, effect_of, no_waking, register, target}
use Rattle.colour_defs.proofs.Effects.{unwrapped, value, woken}
use Rattle.colour_defs.proofs.Follows.{Follows, follows, made_edge, zone_stays}
use Rattle.colour_defs.proofs.Lists.{any_push_cases, choose, first_of_both, no_name_in_nulls, nothing_in_none}
use Rattle.colour_defs.proofs.Lists.{second_of_both}
use Rattle.colour_defs.proofs.Membership.{same_zone_of}
use Rattle.colour_defs.proofs.Names.{same_comp}
use Rattle.judge.specs.Live.{IsFollowed, IsFollowedOut}

-- a wrapper that was never made
abbrev pub IsUnmade : GraphState → Name → Type 0
IsUnmade g (Cell n) = ⊥
IsUnmade g (Wrap c t) = has_wrapper g c t ≡ true → ⊥

-- the second graph leads where the first one does, or where registers of this lead; but from wrappers that are new
pub record LeadsOn (g h : GraphState) : Type 0 where
  pub edges : (x y : Name) → HasEdge h x y → HasEdge g x y ⊎ (Source g no_waking y ⊎ IsUnmade g x)
  pub entries : (m k v : Name) → value_of h m k ≡ Some v
      → (value_of g m k ≡ Some v) ⊎ (EntryOk g m k v × Source g no_waking v)

wakes_nothing : (g h : GraphState) → Follows g no_waking h → LeadsOn g h
wakes_nothing g h f = record {
  edges = λ x y e. elim (f.edges x y e) [ inl old ↦ inl old | inr src ↦ inr (inl src) ];
  entries = f.entries;
}

leads_same : (g : GraphState) → LeadsOn g g
leads_same g = record { edges = λ x y e. inl e; entries = λ m k v e. inl e }

pub takes_on : (g : GraphState) (r : ℕ) (x : Option Name) → LeadsOn g (with_register g r x)
takes_on g r x = record { edges = λ x y e. inl e; entries = λ m k v e. inl e }

makes_on : (g : GraphState) (r : ℕ) (o : Object) → HoldsNothing o → LeadsOn g (make_object g r o).0
makes_on g r o nothing = choose (λ (p : GraphState × Reply). LeadsOn g p.0) (nat_lt o.comp.0 (length g.comps)) _ _
    (λ _. record {
      edges = λ x y e. inl (made_edge g no_waking r o nothing x y e);
      entries = λ m k v e. inl e;
    }) (λ _. leads_same g)

wrapped_edge : (g : GraphState) (r : ℕ) (c : CompNo) (t : ℕ) → (has_wrapper g c t ≡ true → ⊥) → (x y : Name)
    → HasEdge (record g { registers = slice_set g.registers r (Some (Wrap c t)); wrappers = g.wrappers ++ (c, t) ∷ [] })
    x y → HasEdge g x y ⊎ (Source g no_waking y ⊎ IsUnmade g x)
wrapped_edge g r c t unmade (Cell n) y h = inl h
wrapped_edge g r c t unmade (Wrap d s) y h = elim (any_push_cases _ g.wrappers (c, t) h.1) [
  | inl old ↦ inl (h.0, old)
  | inr new ↦
      let comps : c ≡ d = same_comp c d (eqb-true _ _ (first_of_both (eqb c.0 d.0) (eqb t s) new)) in
      let targets : t ≡ s = eqb-true _ _ (second_of_both (eqb c.0 d.0) (eqb t s) new) in
      inr (inr (subst (λ n. has_wrapper g d n ≡ true → ⊥) targets
      (subst (λ a. has_wrapper g a t ≡ true → ⊥) comps unmade)))
]

not_true : (b : Bool) → b ≡ false → b ≡ true → ⊥
not_true b e f = cc (e, f)

take_wrapper_on : (g : GraphState) (r : ℕ) (c : CompNo) (t : ℕ) → LeadsOn g (take_wrapper g r c t).0
take_wrapper_on g r c t = choose (λ (p : GraphState × Reply). LeadsOn g p.0) (has_wrapper g c t) _ _
    (λ _. takes_on g r (Some (Wrap c t)))
    (λ none. record {
      edges = wrapped_edge g r c t (not_true (has_wrapper g c t) none);
      entries = λ m k v e. inl e;
    })

wrap_on : (g : GraphState) (r : ℕ) (c : CompNo) (x : Option Name) → LeadsOn g (wrap_from g r x c).0
wrap_on g r c None = leads_same g
wrap_on g r c (Some x) =
    choose (λ (p : GraphState × Reply). LeadsOn g p.0) (nat_lt c.0 (length g.comps)) _ _
    (λ _. choose (λ (p : GraphState × Reply). LeadsOn g p.0) (is_in_comp g c (Cell (target_of x))) _ _
    (λ _. takes_on g r (Some (Cell (target_of x)))) (λ _. take_wrapper_on g r c (target_of x)))
    (λ _. leads_same g)

unwrap_on : (g : GraphState) (r : ℕ) (x : Option Name) → LeadsOn g (unwrap_from g r x).0
unwrap_on g r None = leads_same g
unwrap_on g r (Some (Cell n)) = leads_same g
unwrap_on g r (Some (Wrap c t)) = takes_on g r (Some (Cell t))

pub command_on : (g : GraphState) (c : GraphCmd) → LeadsOn g (step_of g c).0
command_on g cmd.Zone = wakes_nothing g _ (follows g no_waking (effect_of g cmd.Zone))
command_on g (cmd.Comp z) = wakes_nothing g _ (follows g no_waking (effect_of g (cmd.Comp z)))
command_on g (cmd.New r c n) = makes_on g r (new_object c n) (λ y h. no_name_in_nulls n y h)
command_on g (cmd.Map r c) = makes_on g r (new_map c) (λ y h. nothing_in_none (Some y) h)
command_on g (cmd.Get r s f) = wakes_nothing g _ (follows g no_waking (effect_of g (cmd.Get r s f)))
command_on g (cmd.Set s f t) = wakes_nothing g _ (follows g no_waking (effect_of g (cmd.Set s f t)))
command_on g (cmd.Wrap r s c) = wrap_on g r c (register_cell g s)
command_on g (cmd.Unwrap r s) = unwrap_on g r (register_cell g s)
command_on g (cmd.Copy r s) = wakes_nothing g _ (follows g no_waking (effect_of g (cmd.Copy r s)))
command_on g (cmd.Drop r) = wakes_nothing g _ (follows g no_waking (effect_of g (cmd.Drop r)))
command_on g (cmd.Hold k r) = wakes_nothing g _ (follows g no_waking (effect_of g (cmd.Hold k r)))
command_on g (cmd.Release k) = wakes_nothing g _ (follows g no_waking (effect_of g (cmd.Release k)))
command_on g (cmd.Expose r k) = takes_on g r _
command_on g (cmd.Put m k v) = wakes_nothing g _ (follows g no_waking (effect_of g (cmd.Put m k v)))
command_on g (cmd.Del m k) = wakes_nothing g _ (follows g no_waking (effect_of g (cmd.Del m k)))
command_on g (cmd.Find r m k) = wakes_nothing g _ (follows g no_waking (effect_of g (cmd.Find r m k)))

-- what is present was made
made_present : (w : World) → IsValid w → (x : Name) → IsPresent w x → IsUnmade w.graph x → ⊥
made_present w ok (Cell n) p unmade = unmade
made_present w ok (Wrap c t) p unmade = let m : IsMade w.graph (Wrap c t) = ok.made (Wrap c t) p in unmade m.2

-- where no zone is marking or being prepared
pub black_followed : (w : World) (h : GraphState) → IsValid w → IsValidSettled w → LeadsOn w.graph h
    → IsFollowed h (Has w.black)
black_followed w h ok s on = record {
  edges = λ x y b e. elim (on.edges x y e) [
    | inl old ↦ s.closed.edges x y b old
    | inr other ↦ elim other [
      | inl src ↦ held y src
      | inr unmade ↦ absurd (made_present w ok x (s.present x b) unmade)
    ]
  ];
  values = λ m k v e bm bk. elim (on.entries m k v e) [
    | inl old ↦ s.closed.entries m k v old bm bk
    | inr new ↦ held v new.1
  ];
  keys = λ m v c t e bm bt. elim (on.entries m (Wrap c t) v e) [
    | inl old ↦ s.closed.delegates m v c t old bm bt
    | inr new ↦ s.closed.registers new.0.key_held.0 (Wrap c t) new.0.key_held.1
  ];
}
  where
    held : (x : Name) → Source w.graph no_waking x → Has w.black x
    held x src = from_source w (Has w.black) (Has w.black) ok s.closed (λ y b. b) no_waking (λ y e. absurd (cc e)) x src

-- while zones are being prepared
module _ (w : World) (o : Waking) (h : GraphState) (ok : IsValid w) (f : Follows w.graph o h) (p : Preparation)
    (ready : IsValidPreparing w p) where
  in_zones_stays : (x : Name) → IsInZones w.graph p.zones x → IsInZones h p.zones x
  in_zones_stays x e = go (zone_of w.graph x) refl e
    where
      go : (z : Option ℕ) → zone_of w.graph x ≡ z → is_among p.zones z ≡ true → is_in_zones h p.zones x ≡ true
      go None at e = absurd (cc e)
      go (Some z) at e = ap (is_among p.zones) (zone_stays w.graph o h f x z at) ∙ e

  left_before : (x : Name) → IsPresent w x → (IsInZones h p.zones x → ⊥) → IsLeftOut w p x
  left_before x there out = (there, λ e. out (in_zones_stays x e))

  left_after : (x : Name) → IsLeftOut w p x → IsInZones h p.zones x → ⊥
  left_after x out e = out.1 (back (made_zone w.graph x (ok.made x out.0)))
    where
      back : HasSomeZone w.graph x → IsInZones w.graph p.zones x
      back z = ap (is_among p.zones) (z.1 ∙ sym (zone_stays w.graph o h f x z.0 z.1)) ∙ e

  left_of_comp : (x y : Name) → IsPresent w x → IsSameComp w.graph x y → IsLeftOut w p y → IsLeftOut w p x
  left_of_comp x y there same out =
      (there, λ e. out.1 (sym (ap (is_among p.zones) (same_zone_of w.graph x y same)) ∙ e))

  left_held : (x : Name) → Source w.graph no_waking x → (IsInZones h p.zones x → ⊥) → Has w.black x
  left_held x (register r e) out = ready.closed.registers r x e (left_before x (ok.presence.registers r x e) out)
  left_held x (target r n e d) out =
      let there : IsPresent w (Cell n) = ok.presence.registers r (Cell n) e in
      let mine : IsLeftOut w p x = left_before x (ok.presence.edges (Cell n) x there d) out in
      ready.closed.edges (Cell n) x
      (ready.closed.registers r (Cell n) e (left_of_comp (Cell n) x there (ok.graph.fields n x d) mine)) d mine
  left_held x (unwrapped r b t e q is) out = absurd (cc is)
  left_held x (value a b m k em ek e) out =
      let pm : IsPresent w m = ok.presence.registers a m em in
      let pk : IsPresent w k = ok.presence.registers b k ek in
      let mine : IsLeftOut w p x = left_before x (ok.presence.entries m k x e pm pk) out in
      let map_out : IsLeftOut w p m = left_of_comp m x pm (ok.graph.values m k x e) mine in
      let same = ok.graph.keys m k x e in
      let key_out : IsLeftOut w p k = left_of_comp k m pk (same.0, same.2, same.1) map_out in
      ready.closed.entries m k x e (ready.closed.registers a m em map_out) (ready.closed.registers b k ek key_out) mine
  left_held x (woken e) out = absurd (cc e)

  pub left_followed : LeadsOn w.graph h → IsFollowedOut h p.zones (Has w.black)
  left_followed on = record {
    inside = λ x b. left_after x (ready.left_out x b);
    edges = λ x y b e out. elim (on.edges x y e) [
      | inl old ↦ ready.closed.edges x y b old
          (left_before y (ok.presence.edges x y (ready.left_out x b).0 old) out)
      | inr other ↦ elim other [
        | inl src ↦ left_held y src out
        | inr unmade ↦ absurd (made_present w ok x (ready.left_out x b).0 unmade)
      ]
    ];
    values = λ m k v e bm bk out. elim (on.entries m k v e) [
      | inl old ↦ ready.closed.entries m k v old bm bk
          (left_before v (ok.presence.entries m k v old (ready.left_out m bm).0 (ready.left_out k bk).0) out)
      | inr new ↦ left_held v new.1 out
    ];
    keys = λ m v c t e bm bt out. elim (on.entries m (Wrap c t) v e) [
      | inl old ↦ ready.closed.delegates m v c t old bm bt
          (left_before (Wrap c t)
          (ok.presence.keys m v c t old (ready.left_out m bm).0 (ready.left_out (Cell t) bt).0) out)
      | inr new ↦ ready.closed.registers new.0.key_held.0 (Wrap c t) new.0.key_held.1
          (left_before (Wrap c t) (ok.presence.registers new.0.key_held.0 (Wrap c t) new.0.key_held.1) out)
    ];
  }
