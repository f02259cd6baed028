-- A graph without the names that a test drops: the present part of a world, once these are not present any more.
use Rattle.std.proofs.Common.{◌≡◌, ◌↔◌, ◌+◌, ◌&&◌, ◌||◌, ◌==◌, ℕ, zero, suc, Bool, true, false, cond, refl, sym, ap}
use Rattle.std.proofs.Common.{◌∙◌, subst, arith, eqb, eqb-true, Option, None, Some, IsTrue, List, [], ◌∷◌, length}
use Rattle.std.proofs.Common.{slice_get}
use Rattle.std.specs.List.{filter, list_any}
use Rattle.std.specs.Option.{option_flatten}
use Rattle.gz_names.specs.declared.names.Name.{Name}
use Rattle.gz_names.specs.declared.names.Name.TheVariants.{Cell, Wrap}
use Rattle.gz_names.specs.declared.numbers.CompNo.{CompNo}
use Rattle.gz_names.specs.Order.{same_name}
use Rattle.colour_defs.specs.declared.graph.Object.{Object}
use Rattle.colour_defs.specs.declared.graph.Entry.{Entry}
use Rattle.colour_defs.specs.Graph.{GraphState, comp_of, comp_of_object, has_wrapper, object_of, value_in, value_of}
use Rattle.colour_defs.specs.Closure.{HasEdge, HoldsInField}
use Rattle.colour_defs.specs.World.{World, IsPresent}
use Rattle.colour_defs.specs.Laws.{IsSameComp, IsWellFormed, NamesOnlyPresent}
use Rattle.colour_defs.specs.Present.{IsHere, IsKeyHere, IsPartOf, Shows}
use Rattle.colour_defs.proofs.Lists.{both_of, first_of_both, second_of_both}
use Rattle.colour_defs.proofs.Names.{same_comp, same_name-is}
use Rattle.slice_driver.proofs.abstraction.Named.{part_edge}

pub kept_objects : (Name → Bool) → ℕ → List (Option Object) → List (Option Object)
kept_objects keep n [] = []
kept_objects keep n (o ∷ os) = cond (keep (Cell n)) o None ∷ kept_objects keep (suc n) os

-- the names that pass a test, and what is named by them
abbrev pub restrict : GraphState → (Name → Bool) → GraphState
restrict g keep = record g {
  objects = kept_objects keep 0 g.objects;
  wrappers = filter (λ (w : CompNo × ℕ). keep (Wrap w.0 w.1)) g.wrappers;
  entries = filter (λ (e : Entry). keep e.map && keep e.key) g.entries;
}

kept_at : (keep : Name → Bool) (n : ℕ) (os : List (Option Object)) (i : ℕ)
    → option_flatten (slice_get (kept_objects keep n os) i)
    ≡ cond (keep (Cell (n + i))) (option_flatten (slice_get os i)) None
unfolding kept_objects
kept_at keep n [] i = none (keep (Cell (n + i)))
  where
    none : (t : Bool) → ◌≡◌ {A = Option Object} None (cond t None None)
    none true = refl
    none false = refl
kept_at keep n (o ∷ os) zero = let e : n ≡ n + 0 = omega arith in
    by (keep (Cell n)) ∙ ap (λ m. cond (keep (Cell m)) o None) e
  where
    by : (t : Bool) → option_flatten (Some (cond t o None)) ≡ cond t o None
    by true = refl
    by false = refl
kept_at keep n (o ∷ os) (suc i) = let e : suc n + i ≡ n + suc i = omega arith in kept_at keep (suc n) os i
    ∙ ap (λ m. cond (keep (Cell m)) (option_flatten (slice_get os i)) None) e

kept_length : (keep : Name → Bool) (n : ℕ) (os : List (Option Object)) → length (kept_objects keep n os) ≡ length os
unfolding kept_objects
kept_length keep n [] = refl
kept_length keep n (o ∷ os) = ap suc (kept_length keep (suc n) os)

abbrev is_wrapper_of : CompNo → ℕ → CompNo × ℕ → Bool
is_wrapper_of c t w = (w.0.0 == c.0) && (w.1 == t)

kept_wrapper : (keep : Name → Bool) (ws : List (CompNo × ℕ)) (c : CompNo) (t : ℕ)
    → list_any (is_wrapper_of c t) (filter (λ (w : CompNo × ℕ). keep (Wrap w.0 w.1)) ws)
    ≡ (keep (Wrap c t) && list_any (is_wrapper_of c t) ws)
kept_wrapper keep [] c t = none (keep (Wrap c t))
  where
    none : (b : Bool) → false ≡ (b && false)
    none true = refl
    none false = refl
kept_wrapper keep (w ∷ ws) c t = by (kept_wrapper keep ws c t) (keep (Wrap w.0 w.1)) (is_wrapper_of c t w) refl refl
  where
    same : is_wrapper_of c t w ≡ true → keep (Wrap w.0 w.1) ≡ keep (Wrap c t)
    same hit =
        let comp : w.0 ≡ c = same_comp w.0 c (eqb-true w.0.0 c.0 (first_of_both (eqb w.0.0 c.0) (eqb w.1 t) hit)) in
        let target : w.1 ≡ t = eqb-true w.1 t (second_of_both (eqb w.0.0 c.0) (eqb w.1 t) hit) in
        λ i. keep (Wrap (comp i) (target i))

    all : (b : Bool) → (b && true) ≡ b
    all true = refl
    all false = refl

    by : (list_any (is_wrapper_of c t) (filter (λ (w : CompNo × ℕ). keep (Wrap w.0 w.1)) ws)
        ≡ (keep (Wrap c t) && list_any (is_wrapper_of c t) ws)) → (k a : Bool) → keep (Wrap w.0 w.1) ≡ k
        → is_wrapper_of c t w ≡ a
        → list_any (is_wrapper_of c t)
        (cond k (w ∷ filter (λ (w : CompNo × ℕ). keep (Wrap w.0 w.1)) ws)
        (filter (λ (w : CompNo × ℕ). keep (Wrap w.0 w.1)) ws))
        ≡ (keep (Wrap c t) && (is_wrapper_of c t w || list_any (is_wrapper_of c t) ws))
    by rest true true e f =
        ap (λ b. b || list_any (is_wrapper_of c t) (filter (λ (w : CompNo × ℕ). keep (Wrap w.0 w.1)) ws)) f
        ∙ sym (all true) ∙ ap (λ b. b && true) (sym e ∙ same f)
        ∙ ap (λ b. keep (Wrap c t) && (b || list_any (is_wrapper_of c t) ws)) (sym f)
    by rest true false e f =
        ap (λ b. b || list_any (is_wrapper_of c t) (filter (λ (w : CompNo × ℕ). keep (Wrap w.0 w.1)) ws)) f ∙ rest
        ∙ ap (λ b. keep (Wrap c t) && (b || list_any (is_wrapper_of c t) ws)) (sym f)
    by rest false true e f = rest ∙ ap (λ b. b && list_any (is_wrapper_of c t) ws) (sym (same f) ∙ e)
        ∙ ap (λ b. b && (is_wrapper_of c t w || list_any (is_wrapper_of c t) ws)) (sym e ∙ same f)
    by rest false false e f = rest ∙ ap (λ b. keep (Wrap c t) && (b || list_any (is_wrapper_of c t) ws)) (sym f)

abbrev is_entry_of : Name → Name → Entry → Bool
is_entry_of m k e = same_name e.map m && same_name e.key k

kept_value : (keep : Name → Bool) (es : List Entry) (m k : Name)
    → value_in (filter (λ (e : Entry). keep e.map && keep e.key) es) m k ≡ cond (keep m && keep k) (value_in es m k)
    None
kept_value keep [] m k = none (keep m && keep k)
  where
    none : (t : Bool) → ◌≡◌ {A = Option Name} None (cond t None None)
    none true = refl
    none false = refl
kept_value keep (e ∷ es) m k = by (kept_value keep es m k) (keep e.map && keep e.key) (is_entry_of m k e) refl refl
  where
    same : is_entry_of m k e ≡ true → (keep e.map && keep e.key) ≡ (keep m && keep k)
    same hit =
        let map : e.map ≡ m = same_name-is e.map m (first_of_both (same_name e.map m) (same_name e.key k) hit) in
        let key : e.key ≡ k = same_name-is e.key k (second_of_both (same_name e.map m) (same_name e.key k) hit) in
        λ i. keep (map i) && keep (key i)

    by : (value_in (filter (λ (e : Entry). keep e.map && keep e.key) es) m k ≡ cond (keep m && keep k) (value_in es m k)
        None) → (t a : Bool) → (keep e.map && keep e.key) ≡ t → is_entry_of m k e ≡ a
        → value_in (cond t (e ∷ filter (λ (e : Entry). keep e.map && keep e.key) es)
        (filter (λ (e : Entry). keep e.map && keep e.key) es)) m k
        ≡ cond (keep m && keep k) (cond (is_entry_of m k e) (Some e.value) (value_in es m k)) None
    by rest true true p q =
        ap (λ b. cond b (Some e.value) (value_in (filter (λ (e : Entry). keep e.map && keep e.key) es) m k)) q
        ∙ ap (λ b. cond b (Some e.value) None) (sym p ∙ same q)
        ∙ ap (λ b. cond (keep m && keep k) (cond b (Some e.value) (value_in es m k)) None) (sym q)
    by rest true false p q =
        ap (λ b. cond b (Some e.value) (value_in (filter (λ (e : Entry). keep e.map && keep e.key) es) m k)) q ∙ rest
        ∙ ap (λ b. cond (keep m && keep k) (cond b (Some e.value) (value_in es m k)) None) (sym q)
    by rest false true p q = rest ∙ ap (λ b. cond b (value_in es m k) None) (sym (same q) ∙ p)
        ∙ ap (λ b. cond b (cond (is_entry_of m k e) (Some e.value) (value_in es m k)) None) (sym p ∙ same q)
    by rest false false p q = rest ∙ ap (λ b. cond (keep m && keep k) (cond b (Some e.value) (value_in es m k)) None)
        (sym q)

module _ (g : GraphState) (keep : Name → Bool) where
  pub object_kept : (n : ℕ) → object_of (restrict g keep) n ≡ cond (keep (Cell n)) (object_of g n) None
  object_kept n = kept_at keep 0 g.objects n
      ∙ (let e : 0 + n ≡ n = omega arith in ap (λ m. cond (keep (Cell m)) (object_of g n) None) e)

  pub wrapper_kept : (c : CompNo) (t : ℕ) → has_wrapper (restrict g keep) c t ≡ (keep (Wrap c t) && has_wrapper g c t)
  wrapper_kept c t = kept_wrapper keep g.wrappers c t

  pub value_kept : (m k : Name) → value_of (restrict g keep) m k ≡ cond (keep m && keep k) (value_of g m k) None
  value_kept m k = kept_value keep g.entries m k

  pub objects_kept : length (restrict g keep).objects ≡ length g.objects
  objects_kept = kept_length keep 0 g.objects

  -- what is found is found in the whole graph, and passes
  pub object_back : (n : ℕ) (o : Object) → object_of (restrict g keep) n ≡ Some o → (keep (Cell n) ≡ true)
      × (object_of g n ≡ Some o)
  object_back n o e = go (keep (Cell n)) refl (sym (object_kept n) ∙ e)
    where
      go : (t : Bool) → keep (Cell n) ≡ t → cond t (object_of g n) None ≡ Some o → (keep (Cell n) ≡ true)
          × (object_of g n ≡ Some o)
      go true t e = (t, e)
      go false t e = absurd (cc e)

  pub object_on : (n : ℕ) (o : Object) → keep (Cell n) ≡ true → object_of g n ≡ Some o
      → object_of (restrict g keep) n ≡ Some o
  object_on n o t e = object_kept n ∙ ap (λ b. cond b (object_of g n) None) t ∙ e

  pub value_back : (m k v : Name) → value_of (restrict g keep) m k ≡ Some v → (keep m ≡ true) × (keep k ≡ true)
      × (value_of g m k ≡ Some v)
  value_back m k v e = go (keep m) (keep k) refl refl (sym (value_kept m k) ∙ e)
    where
      go : (s t : Bool) → keep m ≡ s → keep k ≡ t → cond (s && t) (value_of g m k) None ≡ Some v
          → (keep m ≡ true) × (keep k ≡ true) × (value_of g m k ≡ Some v)
      go true true s t e = (s, t, e)
      go true false s t e = absurd (cc e)
      go false t' s t e = absurd (cc e)

  pub value_on : (m k : Name) → keep m ≡ true → keep k ≡ true → value_of (restrict g keep) m k ≡ value_of g m k
  value_on m k s t = value_kept m k ∙ ap (λ b. cond b (value_of g m k) None) (both_of (keep m) (keep k) s t)

  pub wrapper_back : (c : CompNo) (t : ℕ) → IsTrue (has_wrapper (restrict g keep) c t) → (keep (Wrap c t) ≡ true)
      × IsTrue (has_wrapper g c t)
  wrapper_back c t e = (
    first_of_both (keep (Wrap c t)) (has_wrapper g c t) (sym (wrapper_kept c t) ∙ e),
    second_of_both (keep (Wrap c t)) (has_wrapper g c t) (sym (wrapper_kept c t) ∙ e),
  )

  pub wrapper_on : (c : CompNo) (t : ℕ) → keep (Wrap c t) ≡ true → IsTrue (has_wrapper g c t)
      → IsTrue (has_wrapper (restrict g keep) c t)
  wrapper_on c t s e = wrapper_kept c t ∙ both_of (keep (Wrap c t)) (has_wrapper g c t) s e

  pub here_back : (x : Name) → IsHere (restrict g keep) x → IsHere g x × (keep x ≡ true)
  here_back (Wrap c t) e = (let r = wrapper_back c t e in (r.1, r.0))
  here_back (Cell n) e = go (object_of (restrict g keep) n) refl e.1
    where
      go : (o : Option Object) → object_of (restrict g keep) n ≡ o → comp_of_object o ≡ Some e.0 → IsHere g (Cell n)
          × (keep (Cell n) ≡ true)
      go None at f = absurd (cc f)
      go (Some o) at f = (let r = object_back n o at in ((e.0, ap comp_of_object r.1 ∙ f), r.0))

  pub comp_on : (x : Name) → keep x ≡ true → comp_of (restrict g keep) x ≡ comp_of g x
  comp_on (Wrap c t) e = refl
  comp_on (Cell n) e = ap comp_of_object (object_kept n ∙ ap (λ b. cond b (object_of g n) None) e)

  pub here_on : (x : Name) → IsHere g x → keep x ≡ true → IsHere (restrict g keep) x
  here_on (Wrap c t) e s = wrapper_on c t s e
  here_on (Cell n) e s = (e.0, comp_on (Cell n) s ∙ e.1)

  comps_on : (x y : Name) → keep x ≡ true → keep y ≡ true → IsSameComp g x y → IsSameComp (restrict g keep) x y
  comps_on x y s t e = (e.0, comp_on x s ∙ e.1, comp_on y t ∙ e.2)

  cell_here : (x : Name) (c : CompNo) → Rattle.colour_defs.specs.Laws.IsNoWrapper x → comp_of g x ≡ Some c → IsHere g x
  cell_here (Cell n) c plain e = (c, e)
  cell_here (Wrap d t) c plain e = absurd plain

  module _ (w v : World) (s : Shows w g) (same : v.graph ≡ w.graph) (stays : (x : Name) → IsPresent v x
      ↔ (IsPresent w x × (keep x ≡ true))) (before : NamesOnlyPresent w) (presence : NamesOnlyPresent v) where
    edge_here : (n : ℕ) (y : Name) → HasEdge (restrict g keep) (Cell n) y → (keep (Cell n) ≡ true)
        × HasEdge g (Cell n) y × IsPresent w (Cell n)
    edge_here n y e = go (object_of (restrict g keep) n) refl e
      where
        go : (o : Option Object) → object_of (restrict g keep) n ≡ o → HoldsInField o y → (keep (Cell n) ≡ true)
            × HasEdge g (Cell n) y × IsPresent w (Cell n)
        go None at f = absurd f
        go (Some o) at f = (let r = object_back n o at in
            (r.0, subst (λ z. HoldsInField z y) (sym r.1) f, (s.here (Cell n)).0 (o.comp, ap comp_of_object r.1)))

    stays_along : (x y : Name) → IsPresent w x → keep x ≡ true → HasEdge g x y → keep y ≡ true
    stays_along x y p t e =
        ((stays y).0 (presence.edges x y ((stays x).1 (p, t))
        (subst (λ h. HasEdge h x y) (sym same) (part_edge w.graph g s.part x y e)))).1

    -- the map of an entry is here, and its key is present
    map_here : (m k u : Name) → value_of g m k ≡ Some u → IsHere g m
    map_here m k u e =
        let both = s.well_formed.keys m k u e in
        cell_here m both.0 (s.well_formed.no_wrappers m k u e) both.1

    key_stands : (m k u : Name) → value_of g m k ≡ Some u → IsKeyHere g k
    key_stands m (Cell n) u e = (let both = s.well_formed.keys m (Cell n) u e in (both.0, both.2))
    key_stands m (Wrap c t) u e = s.well_formed.delegates m u c t e

    key_present : (m k u : Name) → value_of g m k ≡ Some u → IsPresent w k
    key_present m (Cell n) u e = (s.here (Cell n)).0 (key_stands m (Cell n) u e)
    key_present m (Wrap c t) u e =
        let key = key_stands m (Wrap c t) u e in
        let map = map_here m (Wrap c t) u e in
        before.keys m u c t (sym (s.part.entries m (Wrap c t) map key) ∙ e) ((s.here m).0 map) ((s.here (Cell t)).0 key)

    -- so it is an entry of the world after it
    value_then : (m k u : Name) → value_of g m k ≡ Some u → value_of v.graph m k ≡ Some u
    value_then m k u e = ap (λ (h : GraphState). value_of h m k) same
        ∙ (sym (s.part.entries m k (map_here m k u e) (key_stands m k u e)) ∙ e)

    value_stays : (m k u : Name) → keep m ≡ true → keep k ≡ true → value_of g m k ≡ Some u → keep u ≡ true
    value_stays m k u tm tk e =
        ((stays u).0 (presence.entries m k u (value_then m k u e)
        ((stays m).1 ((s.here m).0 (map_here m k u e), tm)) ((stays k).1 (key_present m k u e, tk)))).1

    -- with its map and its target a wrapper key stays, and with it its target
    key_stays : (m u : Name) (c : CompNo) (t : ℕ) → keep m ≡ true → keep (Cell t) ≡ true
        → value_of g m (Wrap c t) ≡ Some u → keep (Wrap c t) ≡ true
    key_stays m u c t tm tt e = ((stays (Wrap c t)).0 (presence.keys m u c t (value_then m (Wrap c t) u e)
        ((stays m).1 ((s.here m).0 (map_here m (Wrap c t) u e), tm))
        ((stays (Cell t)).1 ((s.here (Cell t)).0 (key_stands m (Wrap c t) u e), tt)))).1

    target_stays : (m u : Name) (c : CompNo) (t : ℕ) → keep (Wrap c t) ≡ true → value_of g m (Wrap c t) ≡ Some u
        → keep (Cell t) ≡ true
    target_stays m u c t tk e =
        let present = key_present m (Wrap c t) u e in
        stays_along (Wrap c t) (Cell t) present tk (refl, (s.here (Wrap c t)).1 present)

    well_formed : IsWellFormed (restrict g keep)
    well_formed = record {
      fields = λ n y e. (let r = edge_here n y e in
          comps_on (Cell n) y r.0 (stays_along (Cell n) y r.2 r.0 r.1) (s.well_formed.fields n y r.1));
      keys = λ m k u e. (let r = value_back m k u e in comps_on m k r.0 r.1 (s.well_formed.keys m k u r.2));
      values = λ m k u e. (let r = value_back m k u e in
          comps_on m u r.0 (value_stays m k u r.0 r.1 r.2) (s.well_formed.values m k u r.2));
      no_wrappers = λ m k u e. s.well_formed.no_wrappers m k u (value_back m k u e).2;
      delegates = λ m u c t e.
          (let r = value_back m (Wrap c t) u e in
          let comp = s.well_formed.delegates m u c t r.2 in
          (comp.0, comp_on (Cell t) (target_stays m u c t r.1 r.2) ∙ comp.1));
    }

    part : IsPartOf w.graph (restrict g keep)
    part = record {
      zones = s.part.zones;
      comps = s.part.comps;
      registers = s.part.registers;
      slots = s.part.slots;
      made = objects_kept ∙ s.part.made;
      objects = λ n o e. s.part.objects n o (object_back n o e).1;
      wrappers = λ c t e. s.part.wrappers c t (wrapper_back c t e).1;
      entries = entries;
    }
      where
        entries : (m k : Name) → IsHere (restrict g keep) m → IsKeyHere (restrict g keep) k
            → value_of (restrict g keep) m k ≡ value_of w.graph m k
        entries m (Cell n) hm hk =
            (let a = here_back m hm in let b = here_back (Cell n) hk in value_on m (Cell n) a.1 b.1
            ∙ s.part.entries m (Cell n) a.0 b.0)
        entries m (Wrap c t) hm hk =
            (let a = here_back m hm in let b = here_back (Cell t) hk in by m c t a.1 b.1 (keep (Wrap c t)) refl
            (value_of g m (Wrap c t)) refl ∙ s.part.entries m (Wrap c t) a.0 b.0)
          where
            neither : (b : Bool) → ◌≡◌ {A = Option Name} (cond b None None) None
            neither true = refl
            neither false = refl

            by : (m : Name) (c : CompNo) (t : ℕ) → keep m ≡ true → keep (Cell t) ≡ true → (b : Bool)
                → keep (Wrap c t) ≡ b → (o : Option Name) → value_of g m (Wrap c t) ≡ o
                → value_of (restrict g keep) m (Wrap c t) ≡ value_of g m (Wrap c t)
            by m c t tm tt true on o e = value_on m (Wrap c t) tm on
            by m c t tm tt false off None e = value_kept m (Wrap c t)
                ∙ (ap (λ (o : Option Name). cond (keep m && keep (Wrap c t)) o None) e
                ∙ (neither (keep m && keep (Wrap c t)) ∙ sym e))
            by m c t tm tt false off (Some u) e =
                absurd (let on = key_stays m u c t tm tt e in cc (on, off))

    pub shows_restricted : Shows v (restrict g keep)
    shows_restricted = record {
      well_formed = well_formed;
      part = subst (λ h. IsPartOf h (restrict g keep)) (sym same) part;
      here = λ x. (
        λ e. (let r = here_back x e in (stays x).1 ((s.here x).0 r.0, r.1)),
        λ p. (let r = (stays x).0 p in here_on x ((s.here x).1 r.0) r.1),
      );
    }

    pub value_kept_too : (m k u : Name) → keep m ≡ true → keep k ≡ true → value_of g m k ≡ Some u → keep u ≡ true
    value_kept_too = value_stays
