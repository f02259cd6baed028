-- A graph and its present part change alike, and reply the same.
use Rattle.std.proofs.Common.{◌≡◌, ℕ, ◌+◌, [], ◌∷◌, ◌++◌, length, cond, Bool, true, false, ◌&&◌, refl, sym, ap, subst}
use Rattle.std.proofs.Common.{◌∙◌, Option, Some, None, slice_get, slice_set, slice_index_or, nat_lt}
use Rattle.gz_names.specs.declared.limits.TheConstants.{ZONE_LIMIT, COMP_LIMIT}
use Rattle.gz_names.specs.declared.names.Name.{Name}
use Rattle.gz_names.specs.declared.names.Name.TheVariants.{Cell, Wrap}
use Rattle.gz_names.specs.declared.numbers.CompNo.{CompNo}
use Rattle.gz_names.specs.declared.commands.GraphCmd.{GraphCmd}
use Rattle.gz_names.specs.declared.commands.GraphCmd.TheVariants as cmd
use Rattle.gz_names.specs.declared.replies.Reply.{Reply}
use Rattle.gz_names.specs.declared.replies.Reply.TheVariants as reply
use Rattle.gz_names.specs.declared.replies.Refusal.{Refusal}
use Rattle.gz_names.specs.declared.replies.Refusal.TheVariants as refusal
use Rattle.colour_defs.specs.declared.graph.Object.{Object}
use Rattle.colour_defs.specs.Graph.{GraphState, object_of, register_cell, slot_cell, has_wrapper, value_of, comp_of}
use Rattle.colour_defs.specs.Graph.{comp_of_object}
use Rattle.colour_defs.specs.Step.{step_of, with_register, with_field, fits_comp, is_in_comp, is_same_comp, get_from}
use Rattle.colour_defs.specs.Step.{get_in, get_value, set_from, set_in, value_to_set, some_value, wrap_from}
use Rattle.colour_defs.specs.Step.{unwrap_from, target_of, put_from, put_unless, put_entry, del_from, del_unless}
use Rattle.colour_defs.specs.Step.{del_value, del_entry, find_from, find_unless, entry_refusal, entry_refusal_in}
use Rattle.colour_defs.specs.Step.{map_comp, map_comp_in, new_object, new_map, make_object, named_or_null}
use Rattle.colour_defs.specs.Step.{refuse}
use Rattle.colour_defs.specs.Present.{IsHere, IsKeyHere, IsComplete, IsPartOf}

-- both graphs change alike
pub data Both (g h : GraphState) : GraphState → GraphState → Type 0 where
  keeps : Both g h g h
  zones : (m n : ℕ) → n ≡ m → Both g h (record g { zones = m }) (record h { zones = n })
  comps : (z : ℕ) → Both g h (record g { comps = g.comps ++ z ∷ [] }) (record h { comps = h.comps ++ z ∷ [] })
  makes : (r : ℕ) (o : Object)
      → Both g h (record g {
        objects = g.objects ++ Some o ∷ [];
        registers = slice_set g.registers r (Some (Cell (length g.objects)));
      })
      (record h {
        objects = h.objects ++ Some o ∷ [];
        registers = slice_set h.registers r (Some (Cell (length h.objects)));
      })
  takes : (r : ℕ) (x y : Option Name) → y ≡ x → Both g h (with_register g r x) (with_register h r y)
  wraps : (r : ℕ) (c : CompNo) (t : ℕ)
      → Both g h (record (with_register g r (Some (Wrap c t))) { wrappers = g.wrappers ++ (c, t) ∷ [] })
      (record (with_register h r (Some (Wrap c t))) { wrappers = h.wrappers ++ (c, t) ∷ [] })
  wraps_again : (r : ℕ) (c : CompNo) (t : ℕ) → has_wrapper g c t ≡ true
      → Both g h (with_register g r (Some (Wrap c t)))
      (record (with_register h r (Some (Wrap c t))) { wrappers = h.wrappers ++ (c, t) ∷ [] })
  writes : (n : ℕ) (o : Object) (f : ℕ) (v : Option Name) → object_of g n ≡ Some o → object_of h n ≡ Some o
      → Both g h (with_field g n o f v) (with_field h n o f v)
  slots : (k : ℕ) (x y : Option Name) → y ≡ x
      → Both g h (record g { slots = slice_set g.slots k x }) (record h { slots = slice_set h.slots k y })
  puts : (m k v : Name)
      → Both g h (record g { entries = put_entry g.entries m k v }) (record h { entries = put_entry h.entries m k v })
  dels : (m k : Name) → Both g h (record g { entries = del_entry g.entries m k })
      (record h { entries = del_entry h.entries m k })

-- the same reply, and graphs that change alike
pub record Alike (g h : GraphState) (p q : GraphState × Reply) : Type 0 where
  pub reply : q.1 ≡ p.1
  pub graphs : Both g h p.0 q.0

choose_both : {X : Type 0} (P : X → X → Type 0) (b d : Bool) (x y z u : X) → d ≡ b → (b ≡ true → P x z)
    → (b ≡ false → P y u) → P (cond b x y) (cond d z u)
choose_both P true true x y z u e p q = p refl
choose_both P true false x y z u e p q = absurd (cc e)
choose_both P false true x y z u e p q = absurd (cc e)
choose_both P false false x y z u e p q = q refl

abbrev AllHere : GraphState → Option Name → Type 0
AllHere h x = (y : Name) → x ≡ Some y → IsHere h y

module _ (g h : GraphState) (p : IsPartOf g h) (ok : IsComplete h) where
  both_refuse : (why : Refusal) → Alike g h (refuse g why) (refuse h why)
  both_refuse why = record { reply = refl; graphs = keeps }

  pub object_there : (n : ℕ) → IsHere h (Cell n) → (o : Object) × (object_of h n ≡ Some o) × (object_of g n ≡ Some o)
  object_there n here = go (object_of h n) refl here.1
    where
      go : (o : Option Object) → object_of h n ≡ o → comp_of_object o ≡ Some here.0
          → (o : Object) × (object_of h n ≡ Some o) × (object_of g n ≡ Some o)
      go None at e = absurd (cc e)
      go (Some o) at e = (o, at, p.objects n o at)

  comp_same : (x : Name) → IsHere h x → comp_of h x ≡ comp_of g x
  comp_same (Cell n) here = let o = object_there n here in ap comp_of_object (o.1 ∙ sym o.2)
  comp_same (Wrap c t) here = refl

  pub in_comp_same : (c : CompNo) (x : Name) → IsHere h x → is_in_comp h c x ≡ is_in_comp g c x
  in_comp_same c x here = ap (λ z. is_same_comp z c) (comp_same x here)

  pub held_same : (r : ℕ) → register_cell h r ≡ register_cell g r
  held_same r = ap (λ rs. slice_index_or rs r None) p.registers

  pub slot_same : (s : ℕ) → slot_cell h s ≡ slot_cell g s
  slot_same s = ap (λ rs. slice_index_or rs s None) p.slots

  -- a key that is here stands for what is here
  pub key_stands : (k : Name) → IsHere h k → IsKeyHere h k
  key_stands (Cell n) here = here
  key_stands (Wrap c t) here = ok.edges (Wrap c t) (Cell t) here (refl, here)

  comps_same : length h.comps ≡ length g.comps
  comps_same = ap length p.comps

  reg_here : (r : ℕ) → AllHere h (register_cell h r)
  reg_here r y e = ok.registers r y e

  get_in_both : (r f : ℕ) (o : Object) → Alike g h (get_in g r (Some o) f) (get_in h r (Some o) f)
  get_in_both r f o = choose_both (Alike g h) o.is_map o.is_map _ _ _ _ refl (λ _. both_refuse refusal.Kind)
      (λ _. go (slice_get o.fields f))
    where
      go : (v : Option (Option Name)) → Alike g h (get_value g r v) (get_value h r v)
      go None = both_refuse refusal.NoField
      go (Some x) = record { reply = refl; graphs = takes r x x refl }

  get_both : (r f : ℕ) (x : Option Name) → AllHere h x → Alike g h (get_from g r x f) (get_from h r x f)
  get_both r f None here = both_refuse refusal.Empty
  get_both r f (Some (Wrap c t)) here = both_refuse refusal.Kind
  get_both r f (Some (Cell n)) here =
      let o = object_there n (here (Cell n) refl) in
      subst (λ z. Alike g h (get_in g r z f) (get_in h r (object_of h n) f)) (sym o.2)
      (subst (λ z. Alike g h (get_in g r (Some o.0) f) (get_in h r z f)) (sym o.1) (get_in_both r f o.0))

  fits_same : (c : CompNo) (v : Option Name) → AllHere h v → fits_comp h c v ≡ fits_comp g c v
  fits_same c None here = refl
  fits_same c (Some x) here = in_comp_same c x (here x refl)

  set_in_both : (n f : ℕ) (v : Option Name) (o : Object) → AllHere h v → object_of g n ≡ Some o → object_of h n ≡ Some o
      → Alike g h (set_in g n (Some o) f v) (set_in h n (Some o) f v)
  set_in_both n f v o here eg eh =
      choose_both (Alike g h) o.is_map o.is_map _ _ _ _ refl (λ _. both_refuse refusal.Kind) (λ _.
      choose_both (Alike g h) (nat_lt f (length o.fields)) (nat_lt f (length o.fields)) _ _ _ _ refl (λ _.
      choose_both (Alike g h) (fits_comp g o.comp v) (fits_comp h o.comp v) _ _ _ _ (fits_same o.comp v here)
      (λ _. record { reply = refl; graphs = writes n o f v eg eh }) (λ _. both_refuse refusal.Cross))
      (λ _. both_refuse refusal.NoField))

  set_both : (f : ℕ) (x : Option Name) (v : Option (Option Name)) → AllHere h x
      → ((y : Name) → v ≡ Some (Some y) → IsHere h y) → Alike g h (set_from g x f v) (set_from h x f v)
  set_both f None v here vh = both_refuse refusal.Empty
  set_both f (Some x) None here vh = both_refuse refusal.Empty
  set_both f (Some (Wrap c t)) (Some v) here vh = both_refuse refusal.Kind
  set_both f (Some (Cell n)) (Some v) here vh =
      let o = object_there n (here (Cell n) refl) in
      subst (λ z. Alike g h (set_in g n z f v) (set_in h n (object_of h n) f v)) (sym o.2)
      (subst (λ z. Alike g h (set_in g n (Some o.0) f v) (set_in h n z f v)) (sym o.1)
      (set_in_both n f v o.0 (λ y e. vh y (ap (λ z. Some z) e)) o.2 o.1))

  value_same : (t : Option ℕ) → value_to_set h t ≡ value_to_set g t
  value_same None = refl
  value_same (Some t) = ap some_value (held_same t)

  value_here : (t : Option ℕ) (y : Name) → value_to_set h t ≡ Some (Some y) → IsHere h y
  value_here None y e = absurd (cc e)
  value_here (Some t) y e = go (register_cell h t) refl e
    where
      go : (x : Option Name) → register_cell h t ≡ x → some_value x ≡ Some (Some y) → IsHere h y
      go None at e = absurd (cc e)
      go (Some x) at e = let q : x ≡ y = cc e in subst (λ z. IsHere h z) q (ok.registers t x at)

  pub target_here : (x : Name) → IsHere h x → IsHere h (Cell (target_of x))
  target_here (Cell n) here = here
  target_here (Wrap c t) here = ok.edges (Wrap c t) (Cell t) here (refl, here)

  wrapped_both : (r : ℕ) (c : CompNo) (t : ℕ) (b d : Bool) → has_wrapper g c t ≡ b → has_wrapper h c t ≡ d
      → Alike g h (cond b (with_register g r (Some (Wrap c t)), reply.Named (Wrap c t)) (
        record (with_register g r (Some (Wrap c t))) { wrappers = g.wrappers ++ (c, t) ∷ [] },
        reply.Named (Wrap c t),
      ))
      (cond d (with_register h r (Some (Wrap c t)), reply.Named (Wrap c t)) (
        record (with_register h r (Some (Wrap c t))) { wrappers = h.wrappers ++ (c, t) ∷ [] },
        reply.Named (Wrap c t),
      ))
  wrapped_both r c t true true eg eh =
      record { reply = refl; graphs = takes r (Some (Wrap c t)) (Some (Wrap c t)) refl }
  wrapped_both r c t true false eg eh = record { reply = refl; graphs = wraps_again r c t eg }
  wrapped_both r c t false true eg eh = absurd (cc (p.wrappers c t eh, eg))
  wrapped_both r c t false false eg eh = record { reply = refl; graphs = wraps r c t }

  wrap_both : (r : ℕ) (c : CompNo) (x : Option Name) → AllHere h x → Alike g h (wrap_from g r x c) (wrap_from h r x c)
  wrap_both r c None here = both_refuse refusal.Empty
  wrap_both r c (Some x) here =
      choose_both (Alike g h) (nat_lt c.0 (length g.comps)) (nat_lt c.0 (length h.comps)) _ _ _ _
      (ap (λ n. nat_lt c.0 n) comps_same) (λ _.
      choose_both (Alike g h) (is_in_comp g c (Cell (target_of x))) (is_in_comp h c (Cell (target_of x))) _ _ _ _
      (in_comp_same c (Cell (target_of x)) (target_here x (here x refl)))
      (λ _. record { reply = refl; graphs = takes r (Some (Cell (target_of x))) (Some (Cell (target_of x))) refl })
      (λ _. wrapped_both r c (target_of x) (has_wrapper g c (target_of x)) (has_wrapper h c (target_of x)) refl
      refl))
      (λ _. both_refuse refusal.NoComp)

  unwrap_both : (r : ℕ) (x : Option Name) → Alike g h (unwrap_from g r x) (unwrap_from h r x)
  unwrap_both r None = both_refuse refusal.Empty
  unwrap_both r (Some (Cell n)) = both_refuse refusal.Kind
  unwrap_both r (Some (Wrap c t)) = record { reply = refl; graphs = takes r (Some (Cell t)) (Some (Cell t)) refl }

  map_same : (m : Name) → IsHere h m → map_comp h m ≡ map_comp g m
  map_same (Cell n) here = let o = object_there n here in ap map_comp_in (o.1 ∙ sym o.2)
  map_same (Wrap c t) here = refl

  refusal_same : (m k v : Name) → IsHere h m → IsHere h k → IsHere h v → entry_refusal h m k v ≡ entry_refusal g m k v
  refusal_same m k v hm hk hv = go (map_comp g m) ∙ refl
    where
      go : (o : Option CompNo) → entry_refusal_in h (map_comp h m) k v ≡ entry_refusal_in g (map_comp g m) k v
      go o = ap (λ z. entry_refusal_in h z k v) (map_same m hm) ∙ step (map_comp g m)
        where
          step : (o : Option CompNo) → entry_refusal_in h o k v ≡ entry_refusal_in g o k v
          step None = refl
          step (Some c) = ap (λ b. cond (b && is_in_comp h c v) None (Some refusal.Cross))
              (in_comp_same c k hk) ∙ ap (λ b. cond (is_in_comp g c k && b) None (Some refusal.Cross))
              (in_comp_same c v hv)

  put_both : (m k v : Option Name) → AllHere h m → AllHere h k → AllHere h v
      → Alike g h (put_from g m k v) (put_from h m k v)
  put_both None k v hm hk hv = both_refuse refusal.Empty
  put_both (Some m) None v hm hk hv = both_refuse refusal.Empty
  put_both (Some m) (Some k) None hm hk hv = both_refuse refusal.Empty
  put_both (Some m) (Some k) (Some v) hm hk hv =
      subst (λ z. Alike g h (put_unless g m k v z) (put_unless h m k v (entry_refusal h m k v)))
      (refusal_same m k v (hm m refl) (hk k refl) (hv v refl)) (go (entry_refusal h m k v))
    where
      go : (o : Option Refusal) → Alike g h (put_unless g m k v o) (put_unless h m k v o)
      go (Some why) = both_refuse why
      go None = record { reply = refl; graphs = puts m k v }

  del_both : (m k : Option Name) → AllHere h m → AllHere h k → Alike g h (del_from g m k) (del_from h m k)
  del_both None k hm hk = both_refuse refusal.Empty
  del_both (Some m) None hm hk = both_refuse refusal.Empty
  del_both (Some m) (Some k) hm hk =
      subst (λ z. Alike g h (del_unless g m k z) (del_unless h m k (entry_refusal h m k k)))
      (refusal_same m k k (hm m refl) (hk k refl) (hk k refl)) (go (entry_refusal h m k k))
    where
      found : (x : Option Name) → Alike g h (del_value g m k x) (del_value h m k x)
      found None = record { reply = refl; graphs = keeps }
      found (Some v) = record { reply = refl; graphs = dels m k }

      go : (o : Option Refusal) → Alike g h (del_unless g m k o) (del_unless h m k o)
      go (Some why) = both_refuse why
      go None = subst (λ z. Alike g h (del_value g m k z) (del_value h m k (value_of h m k)))
          (p.entries m k (hm m refl) (key_stands k (hk k refl))) (found (value_of h m k))

  find_both : (r : ℕ) (m k : Option Name) → AllHere h m → AllHere h k
      → Alike g h (find_from g r m k) (find_from h r m k)
  find_both r None k hm hk = both_refuse refusal.Empty
  find_both r (Some m) None hm hk = both_refuse refusal.Empty
  find_both r (Some m) (Some k) hm hk =
      subst (λ z. Alike g h (find_unless g r m k z) (find_unless h r m k (entry_refusal h m k k)))
      (refusal_same m k k (hm m refl) (hk k refl) (hk k refl)) (go (entry_refusal h m k k))
    where
      go : (o : Option Refusal) → Alike g h (find_unless g r m k o) (find_unless h r m k o)
      go (Some why) = both_refuse why
      go None = let e : value_of h m k ≡ value_of g m k = p.entries m k (hm m refl) (key_stands k (hk k refl)) in
          record { reply = ap named_or_null e; graphs = takes r (value_of g m k) (value_of h m k) e }

  make_both : (r : ℕ) (o : Object) → Alike g h (make_object g r o) (make_object h r o)
  make_both r o = choose_both (Alike g h) (nat_lt o.comp.0 (length g.comps)) (nat_lt o.comp.0 (length h.comps)) _ _ _ _
      (ap (λ n. nat_lt o.comp.0 n) comps_same)
      (λ _. record { reply = ap (λ n. reply.Made n) p.made; graphs = makes r o }) (λ _. both_refuse refusal.NoComp)

  pub alike : (c : GraphCmd) → Alike g h (step_of g c) (step_of h c)
  alike cmd.Zone = choose_both (Alike g h) (nat_lt g.zones ZONE_LIMIT) (nat_lt h.zones ZONE_LIMIT) _ _ _ _
      (ap (λ n. nat_lt n ZONE_LIMIT) p.zones)
      (λ _. record {
        reply = ap (λ n. reply.Zone n) p.zones;
        graphs = zones (g.zones + 1) (h.zones + 1) (ap (λ n. n + 1) p.zones);
      }) (λ _. both_refuse refusal.Full)
  alike (cmd.Comp z) =
      choose_both (Alike g h) (nat_lt z g.zones) (nat_lt z h.zones) _ _ _ _ (ap (λ n. nat_lt z n) p.zones) (λ _.
      choose_both (Alike g h) (nat_lt (length g.comps) COMP_LIMIT) (nat_lt (length h.comps) COMP_LIMIT) _ _ _ _
      (ap (λ n. nat_lt n COMP_LIMIT) comps_same)
      (λ _. record { reply = ap (λ n. reply.Comp (record { 0 = n })) comps_same; graphs = comps z })
      (λ _. both_refuse refusal.Full))
      (λ _. both_refuse refusal.NoZone)
  alike (cmd.New r c n) = make_both r (new_object c n)
  alike (cmd.Map r c) = make_both r (new_map c)
  alike (cmd.Get r s f) = subst (λ z. Alike g h (get_from g r z f) (get_from h r (register_cell h s) f)) (held_same s)
      (get_both r f (register_cell h s) (reg_here s))
  alike (cmd.Set s f t) =
      subst (λ z. Alike g h (set_from g z f (value_to_set g t)) (set_from h (register_cell h s) f (value_to_set h t)))
      (held_same s) (subst
      (λ z. Alike g h (set_from g (register_cell h s) f z) (set_from h (register_cell h s) f (value_to_set h t)))
      (value_same t) (set_both f (register_cell h s) (value_to_set h t) (reg_here s) (value_here t)))
  alike (cmd.Wrap r s c) = subst (λ z. Alike g h (wrap_from g r z c) (wrap_from h r (register_cell h s) c))
      (held_same s) (wrap_both r c (register_cell h s) (reg_here s))
  alike (cmd.Unwrap r s) = subst (λ z. Alike g h (unwrap_from g r z) (unwrap_from h r (register_cell h s)))
      (held_same s) (unwrap_both r (register_cell h s))
  alike (cmd.Copy r s) = record { reply = refl; graphs = takes r (register_cell g s) (register_cell h s) (held_same s) }
  alike (cmd.Drop r) = record { reply = refl; graphs = takes r None None refl }
  alike (cmd.Hold k r) = record { reply = refl; graphs = slots k (register_cell g r) (register_cell h r) (held_same r) }
  alike (cmd.Release k) = record { reply = refl; graphs = slots k None None refl }
  alike (cmd.Expose r k) =
      record { reply = ap named_or_null (slot_same k); graphs = takes r (slot_cell g k) (slot_cell h k) (slot_same k) }
  alike (cmd.Put m k v) =
      subst (λ z. Alike g h (put_from g z (register_cell g k) (register_cell g v))
      (put_from h (register_cell h m) (register_cell h k) (register_cell h v))) (held_same m)
      (subst (λ z. Alike g h (put_from g (register_cell h m) z (register_cell g v))
      (put_from h (register_cell h m) (register_cell h k) (register_cell h v))) (held_same k)
      (subst (λ z. Alike g h (put_from g (register_cell h m) (register_cell h k) z)
      (put_from h (register_cell h m) (register_cell h k) (register_cell h v))) (held_same v)
      (put_both (register_cell h m) (register_cell h k) (register_cell h v) (reg_here m) (reg_here k) (reg_here v))))
  alike (cmd.Del m k) =
      subst (λ z. Alike g h (del_from g z (register_cell g k)) (del_from h (register_cell h m) (register_cell h k)))
      (held_same m) (subst
      (λ z. Alike g h (del_from g (register_cell h m) z) (del_from h (register_cell h m) (register_cell h k)))
      (held_same k) (del_both (register_cell h m) (register_cell h k) (reg_here m) (reg_here k)))
  alike (cmd.Find r m k) =
      subst (λ z. Alike g h (find_from g r z (register_cell g k))
      (find_from h r (register_cell h m) (register_cell h k))) (held_same m)
      (subst (λ z. Alike g h (find_from g r (register_cell h m) z)
      (find_from h r (register_cell h m) (register_cell h k))) (held_same k)
      (find_both r (register_cell h m) (register_cell h k) (reg_here m) (reg_here k)))
