-- Commands on the entries of weak maps.
use Rattle.std.proofs.Common.{◌≡◌, ◌⊎◌, ◌&&◌, ℕ, Bool, true, false, cond, inl, inr, List, Option, Some, None, Ok, Err}
use Rattle.std.proofs.Common.{refl, sym, ap, subst, ◌∙◌}
use Rattle.gz_names.specs.declared.names.Name.{Name}
use Rattle.gz_names.specs.declared.numbers.CompNo.{CompNo}
use Rattle.gz_names.specs.declared.numbers.Place.{Place}
use Rattle.gz_names.specs.declared.commands.GraphCmd.TheVariants as cmd
use Rattle.gz_names.specs.declared.replies.Reply.{Reply}
use Rattle.gz_names.specs.declared.replies.Reply.TheVariants as reply
use Rattle.gz_names.specs.declared.replies.CmdFault.TheVariants as fault
use Rattle.gz_names.specs.declared.replies.Refusal.{Refusal}
use Rattle.gz_names.specs.Order.{same_name}
use Rattle.arena_table.specs.Cells.{CellState}
use Rattle.weak_maps.specs.Places.{is_same}
use Rattle.weak_maps.specs.WeakMaps.{LooksState, WeakTableState, value_of}
use Rattle.colour_defs.specs.declared.graph.Entry.{Entry}
use Rattle.colour_defs.specs.Graph as graph
use Rattle.colour_defs.specs.Graph.{GraphState, object_of, register_cell, value_in}
use Rattle.colour_defs.specs.Step as step
use Rattle.colour_defs.specs.Step.{step_of, refuse, refusal_in, put_from, del_from, find_from, take_in_register}
use Rattle.colour_defs.specs.Step.{is_same_comp, is_in_comp, map_comp, map_comp_in}
use Rattle.colour_defs.proofs.Lists.{first_of_both, second_of_both, both_of}
use Rattle.colour_defs.proofs.Names.{same_name-is, same_name-refl}
use Rattle.colour_defs.proofs.Entries.{put_found, put_other, del_gone, del_cases, del_keeps}
use Rattle.heap_core.specs.Shape.{IsPresent, cell_of, held_name, name_at}
use Rattle.heap_core.specs.Heap.{HeapState, reg_of}
use Rattle.heap_core.specs.Changes.{IsWith, IsWithout}
use Rattle.heap_core.specs.Shows.{Shows, IsWrapperOf, is_map, is_wrapper}
use Rattle.heap_core.specs.Answers.{DoesStep}
use Rattle.heap_core.specs.Lookups.{Hands, IsEntry, IsNoEntry, entry_refusal, entry_refusal_in, refusal_by}
use Rattle.heap_core.proofs.Places.{place-is, place-same, present_cell, cell_named}
use Rattle.heap_core.proofs.Shown.{reg_present, reg_named, object_there, wrapper_there, stands_as}
use Rattle.heap_core.proofs.Stepping.{does-accepted, does-wanting}
use Rattle.heap_core.proofs.Seen.{comp_tested}

-- a present cell and its name
pub record IsNamed (h : HeapState) (p : Place) : Type 0 where
  pub cell : CellState
  pub cell_is : cell_of h.shape p ≡ Some cell
  pub name_is : name_at h.shape p ≡ Some cell.name

pub named_there : (h : HeapState) (p : Place) → IsPresent h.shape p → IsNamed h p
named_there h p e = let k = present_cell h.shape p e in
    record { cell = k.0; cell_is = k.1; name_is = cell_named h.shape p k.0 k.1 }

-- whether it is a map, as the graph says
map_shown : (h : HeapState) (g : GraphState) (p : Place) (cell : CellState) → Shows h g → cell_of h.shape p ≡ Some cell
    → map_comp g cell.name ≡ cond (is_map cell.kind) (Some cell.comp) None
map_shown h g p cell s e = go (is_wrapper cell.kind) refl
  where
    not_map : is_wrapper cell.kind ≡ true → (c : CompNo) (t : ℕ) → IsWrapperOf h.shape g p cell c t
        → is_map cell.kind ≡ false
    not_map w c t k = ap is_map k.kind_is

    go : (b : Bool) → is_wrapper cell.kind ≡ b → map_comp g cell.name ≡ cond (is_map cell.kind) (Some cell.comp) None
    go true w =
        let k = wrapper_there h g p cell s e w in
        ap (map_comp g) k.name_is ∙ ap (λ (b : Bool). cond b (Some cell.comp) None)
        (sym (not_map w k.comp k.number k.wraps))
    go false plain =
        let o = object_there h g p cell s e plain in
        ap (map_comp g) o.name_is ∙ ap map_comp_in o.object_is

-- why an entry is refused, as the graph says
refusal_shown : (h : HeapState) (g : GraphState) (m k v : Place) (x : IsNamed h m) (y : IsNamed h k) (z : IsNamed h v)
    → Shows h g → step.entry_refusal g x.cell.name y.cell.name z.cell.name ≡ entry_refusal h.shape m k v
refusal_shown h g m k v x y z s =
    ap (λ (c : Option CompNo). step.entry_refusal_in g c y.cell.name z.cell.name) (map_shown h g m x.cell s x.cell_is)
    ∙ go (is_map x.cell.kind) refl
    ∙ ap (λ (o : Option CellState). entry_refusal_in h.shape o k v) (sym x.cell_is)
  where
    go : (b : Bool) → is_map x.cell.kind ≡ b
        → step.entry_refusal_in g (cond (is_map x.cell.kind) (Some x.cell.comp) None) y.cell.name z.cell.name
        ≡ entry_refusal_in h.shape (Some x.cell) k v
    go true is =
        let a = comp_tested h g x.cell.comp k y.cell.name s y.name_is in
        let b = comp_tested h g x.cell.comp v z.cell.name s z.name_is in
        rw (is, a, b) refl
    go false is = rw is refl

-- what registers hold, by name
pub regs_named : (h : HeapState) (g : GraphState) (m k v : ℕ) (map key value : Place) → Shows h g
    → reg_of h m ≡ Some map → reg_of h k ≡ Some key → reg_of h v ≡ Some value
    → refusal_by g (register_cell g m) (register_cell g k) (register_cell g v) ≡ entry_refusal h.shape map key value
regs_named h g m k v map key value s a b c =
    let x = named_there h map (reg_present h g m map s a) in
    let y = named_there h key (reg_present h g k key s b) in
    let z = named_there h value (reg_present h g v value s c) in
    ap (λ (o : Option Name). refusal_by g o (register_cell g k) (register_cell g v))
    (reg_named h g m map x.cell s a x.cell_is)
    ∙ ap (λ (o : Option Name). refusal_by g (Some x.cell.name) o (register_cell g v))
    (reg_named h g k key y.cell s b y.cell_is)
    ∙ ap (λ (o : Option Name). refusal_by g (Some x.cell.name) (Some y.cell.name) o)
    (reg_named h g v value z.cell s c z.cell_is)
    ∙ refusal_shown h g map key value x y z s

pub no_entry : (h : HeapState) (m k v : ℕ) (map key value : Place) (why : Refusal) → reg_of h m ≡ Some map
    → reg_of h k ≡ Some key → reg_of h v ≡ Some value → entry_refusal h.shape map key value ≡ Some why
    → IsNoEntry h m k v why
no_entry h m k v map key value why a b c refused g s = regs_named h g m k v map key value s a b c ∙ refused

-- the value of a key, as the graph has it
value_shown : (h : HeapState) (g : GraphState) (m k : Place) (x y : Name) → Shows h g → name_at h.shape m ≡ Some x
    → name_at h.shape k ≡ Some y → graph.value_of g x y ≡ held_name h.shape (value_of h.shape.weak m k)
value_shown h g m k x y s a b = go (value_of h.shape.weak m k) refl
  where
    none : (o : Option Name) → graph.value_of g x y ≡ o → value_of h.shape.weak m k ≡ None → o ≡ None
    none None e n = refl
    none (Some z) e n =
        let t = s.entries_known x y z e in
        let p : t.0 ≡ m = s.apart t.0 m x t.4 a in
        let q : t.1 ≡ k = s.apart t.1 k y t.5 b in
        let there : value_of h.shape.weak m k ≡ Some t.2 = ap (λ (r : Place). value_of h.shape.weak r k) (sym p)
        ∙ ap (value_of h.shape.weak t.0) (sym q) ∙ t.3 in
        absurd (cc (there, n))

    go : (o : Option Place) → value_of h.shape.weak m k ≡ o → graph.value_of g x y ≡ held_name h.shape o
    go None e = none (graph.value_of g x y) refl e
    go (Some v) e =
        let z = named_there h v (s.entries_held m k v e).2 in
        s.entries_are m k v x y z.cell.name e a b z.name_is ∙ sym z.name_is

-- other entries
module _ (h : HeapState) (g : GraphState) (weak : WeakTableState) (looks : LooksState) (es : List Entry) (s : Shows h g)
  where
    abbrev heap : HeapState
    heap = record h { shape = record h.shape { weak = weak }; looks = looks }

    abbrev graph_with : GraphState
    graph_with = record g { entries = es }

    wrapper_kept : (p : Place) (cell : CellState) (c : CompNo) (t : ℕ) → IsWrapperOf h.shape g p cell c t
        → IsWrapperOf heap.shape graph_with p cell c t
    wrapper_kept p cell c t w =
        record {
          target = w.target;
          kind_is = w.kind_is;
          comp_is = w.comp_is;
          fields_is = w.fields_is;
          target_is = w.target_is;
          known = w.known;
          mapped = w.mapped;
        }

    pub shows-entries : ((m k v : Place) → value_of weak m k ≡ Some v → IsPresent h.shape m × IsPresent h.shape k
        × IsPresent h.shape v)
        → ((m k v : Place) (x y z : Name) → value_of weak m k ≡ Some v → name_at h.shape m ≡ Some x
        → name_at h.shape k ≡ Some y → name_at h.shape v ≡ Some z → value_in es x y ≡ Some z)
        → ((x y z : Name) → value_in es x y ≡ Some z → (m : Place) × (k : Place) × (v : Place)
        × (value_of weak m k ≡ Some v) × (name_at h.shape m ≡ Some x) × (name_at h.shape k ≡ Some y)
        × (name_at h.shape v ≡ Some z))
        → Shows heap graph_with
    shows-entries held are known = record {
      zones_are = s.zones_are;
      comps_are = s.comps_are;
      objects_made = s.objects_made;
      registers_are = s.registers_are;
      slots_are = s.slots_are;
      registers_held = s.registers_held;
      slots_held = s.slots_held;
      fields_held = s.fields_held;
      cells = λ p cell e. (let k = s.cells p cell e in
          record {
            stands = stands_as h.shape heap.shape g graph_with p cell cell.name (λ n o. o) (wrapper_kept p cell)
                k.stands;
            sized = k.sized;
            few = k.few;
            at_home = k.at_home;
          });
      apart = s.apart;
      objects_are = s.objects_are;
      wrappers_are = s.wrappers_are;
      mapped = s.mapped;
      maps_at_home = s.maps_at_home;
      entries_held = held;
      entries_are = are;
      entries_known = known;
      few_objects = s.few_objects;
    }

-- two pairs of places, decided by the test
pairs : (m k a b : Place) → ((m ≡ a) × (k ≡ b)) ⊎ ((is_same m a && is_same k b) ≡ false)
pairs m k a b = go (is_same m a && is_same k b) refl
  where
    go : (t : Bool) → (is_same m a && is_same k b) ≡ t → ((m ≡ a) × (k ≡ b)) ⊎ ((is_same m a && is_same k b) ≡ false)
    go true e = inl (
      place-is m a (first_of_both (is_same m a) (is_same k b) e),
      place-is k b (second_of_both (is_same m a) (is_same k b) e),
    )
    go false e = inr e

name_pairs : (m k a b : Name) → ((m ≡ a) × (k ≡ b)) ⊎ ((m ≡ a) × (k ≡ b) → ⊥)
name_pairs m k a b = go (same_name m a && same_name k b) refl
  where
    go : (t : Bool) → (same_name m a && same_name k b) ≡ t → ((m ≡ a) × (k ≡ b)) ⊎ ((m ≡ a) × (k ≡ b) → ⊥)
    go true e = inl (
      same_name-is m a (first_of_both (same_name m a) (same_name k b) e),
      same_name-is k b (second_of_both (same_name m a) (same_name k b) e),
    )
    go false e = inr (λ is.
        (let t : (same_name m a && same_name k b) ≡ true =
        both_of (same_name m a) (same_name k b) (ap (same_name m) (sym is.0) ∙ same_name-refl m)
        (ap (same_name k) (sym is.1) ∙ same_name-refl k) in cc (e, t)))

pair_same : (m k : Place) → (is_same m m && is_same k k) ≡ true
pair_same m k = both_of (is_same m m) (is_same k k) (place-same m) (place-same k)

module _ (h : HeapState) (g : GraphState) (m k v : Place) (x y z : Name) (s : Shows h g)
    (mx : name_at h.shape m ≡ Some x) (ky : name_at h.shape k ≡ Some y) (vz : name_at h.shape v ≡ Some z)
    (there : IsPresent h.shape m × IsPresent h.shape k × IsPresent h.shape v) where
  -- names of one pair are those of the other
  names_same : (a b : Place) (p q : Name) → name_at h.shape a ≡ Some p → name_at h.shape b ≡ Some q → m ≡ a → k ≡ b
      → (x ≡ p) × (y ≡ q)
  names_same a b p q ap_ bq ma kb =
      (cc (sym mx ∙ ap (name_at h.shape) ma ∙ ap_), cc (sym ky ∙ ap (name_at h.shape) kb ∙ bq))

  places_same : (a b : Place) (p q : Name) → name_at h.shape a ≡ Some p → name_at h.shape b ≡ Some q → x ≡ p → y ≡ q
      → (m ≡ a) × (k ≡ b)
  places_same a b p q ap_ bq xp yq = (
    s.apart m a x mx (ap_ ∙ ap (λ (n : Name). Some n) (sym xp)),
    s.apart k b y ky (bq ∙ ap (λ (n : Name). Some n) (sym yq)),
  )

  module _ (weak : WeakTableState) (looks : LooksState)
      (found : (a b : Place)
      → value_of weak a b ≡ cond (is_same m a && is_same k b) (Some v) (value_of h.shape.weak a b))
    where
      here : value_of weak m k ≡ Some v
      here = found m k ∙ ap (λ (b : Bool). cond b (Some v) (value_of h.shape.weak m k)) (pair_same m k)

      others : (a b : Place) → (is_same m a && is_same k b) ≡ false → value_of weak a b
          ≡ value_of h.shape.weak a b
      others a b e = found a b ∙ ap (λ (t : Bool). cond t (Some v) (value_of h.shape.weak a b)) e

      put_held : (a b w : Place) → value_of weak a b ≡ Some w → IsPresent h.shape a
          × IsPresent h.shape b × IsPresent h.shape w
      put_held a b w e = elim (pairs m k a b) [
        | inl is ↦ (let mine : v ≡ w =
            cc (sym here ∙ ap (λ (r : Place). value_of weak r k) is.0
            ∙ ap (value_of weak a) is.1 ∙ e) in (
              subst (IsPresent h.shape) is.0 there.0,
              subst (IsPresent h.shape) is.1 there.1,
              subst (IsPresent h.shape) mine there.2,
            ))
        | inr apart ↦ s.entries_held a b w (sym (others a b apart) ∙ e)
      ]

      put_are : (a b w : Place) (p q u : Name) → value_of weak a b ≡ Some w
          → name_at h.shape a ≡ Some p → name_at h.shape b ≡ Some q → name_at h.shape w ≡ Some u
          → value_in (step.put_entry g.entries x y z) p q ≡ Some u
      put_are a b w p q u e ap_ bq wu = elim (pairs m k a b) [
        | inl is ↦ (let mine : v ≡ w =
            cc (sym here ∙ ap (λ (r : Place). value_of weak r k) is.0
            ∙ ap (value_of weak a) is.1 ∙ e) in
            let n = names_same a b p q ap_ bq is.0 is.1 in
            let zu : z ≡ u = cc (sym vz ∙ ap (name_at h.shape) mine ∙ wu) in
            ap (λ (r : Name). value_in (step.put_entry g.entries x y z) r q) (sym n.0)
            ∙ ap (value_in (step.put_entry g.entries x y z) x) (sym n.1) ∙ put_found g.entries x y z
            ∙ ap (λ (r : Name). Some r) zu)
        | inr apart ↦ elim (put_other g.entries x y z p q) [
          | inl same ↦ same ∙ s.entries_are a b w p q u (sym (others a b apart) ∙ e) ap_ bq wu
          | inr is ↦ (let one = places_same a b p q ap_ bq is.0 is.1 in
              let yes_same : (is_same m a && is_same k b) ≡ true =
              ap (λ (r : Place). is_same m r && is_same k b) (sym one.0)
              ∙ ap (λ (r : Place). is_same m m && is_same k r) (sym one.1) ∙ pair_same m k in
              absurd (cc (apart, yes_same)))
        ]
      ]

      put_known : (p q u : Name) → value_in (step.put_entry g.entries x y z) p q ≡ Some u → (a : Place) × (b : Place)
          × (w : Place) × (value_of weak a b ≡ Some w) × (name_at h.shape a ≡ Some p)
          × (name_at h.shape b ≡ Some q) × (name_at h.shape w ≡ Some u)
      put_known p q u e = elim (name_pairs x y p q) [
        | inl is ↦ (let zu : z ≡ u =
            cc (sym (put_found g.entries x y z) ∙ ap (λ (r : Name). value_in (step.put_entry g.entries x y z) r y) is.0
            ∙ ap (value_in (step.put_entry g.entries x y z) p) is.1 ∙ e) in (
              m,
              k,
              v,
              here,
              mx ∙ ap (λ (r : Name). Some r) is.0,
              ky ∙ ap (λ (r : Name). Some r) is.1,
              vz ∙ ap (λ (r : Name). Some r) zu,
            ))
        | inr apart ↦ elim (put_other g.entries x y z p q) [
          | inr is ↦ absurd (apart is)
          | inl same ↦ (let old = s.entries_known p q u (sym same ∙ e) in
              elim (pairs m k old.0 old.1) [
                | inl is ↦ absurd (apart (names_same old.0 old.1 p q old.4 old.5 is.0 is.1))
                | inr ne ↦ (old.0, old.1, old.2, others old.0 old.1 ne ∙ old.3, old.4, old.5, old.6)
              ])
        ]
      ]

      pub shows-put : Shows (record h { shape = record h.shape { weak = weak }; looks = looks })
          (record g { entries = step.put_entry g.entries x y z })
      shows-put = shows-entries h g weak looks (step.put_entry g.entries x y z) s put_held put_are put_known

  module _ (weak : WeakTableState) (looks : LooksState)
      (found : (a b : Place) → value_of weak a b ≡ cond (is_same m a && is_same k b) None (value_of h.shape.weak a b))
    where
      gone : value_of weak m k ≡ None
      gone = found m k ∙ ap (λ (b : Bool). cond b None (value_of h.shape.weak m k)) (pair_same m k)

      kept : (a b w : Place) → value_of weak a b ≡ Some w → ((is_same m a && is_same k b) ≡ false)
          × (value_of h.shape.weak a b ≡ Some w)
      kept a b w e = elim (pairs m k a b) [
        | inl is ↦ (let none : value_of weak a b ≡ None =
            ap (λ (r : Place). value_of weak r b) (sym is.0)
            ∙ ap (value_of weak m) (sym is.1) ∙ gone in absurd (cc (none, e)))
        | inr apart ↦ (
          apart,
          sym (ap (λ (t : Bool). cond t None (value_of h.shape.weak a b)) apart) ∙ sym (found a b)
              ∙ e,
        )
      ]

      del_are : (a b w : Place) (p q u : Name) → value_of weak a b ≡ Some w → name_at h.shape a ≡ Some p
          → name_at h.shape b ≡ Some q → name_at h.shape w ≡ Some u → value_in (step.del_entry g.entries x y) p q
          ≡ Some u
      del_are a b w p q u e ap_ bq wu =
          let old = kept a b w e in
          elim (del_cases g.entries x y p q) [
            | inl same ↦ same ∙ s.entries_are a b w p q u old.1 ap_ bq wu
            | inr is ↦ (let one = places_same a b p q ap_ bq is.0 is.1 in
                let yes_same : (is_same m a && is_same k b) ≡ true =
                ap (λ (r : Place). is_same m r && is_same k b) (sym one.0)
                ∙ ap (λ (r : Place). is_same m m && is_same k r) (sym one.1) ∙ pair_same m k in
                let no_same = old.0 in
                absurd (cc (no_same, yes_same)))
          ]

      del_known : (p q u : Name) → value_in (step.del_entry g.entries x y) p q ≡ Some u → (a : Place) × (b : Place)
          × (w : Place) × (value_of weak a b ≡ Some w) × (name_at h.shape a ≡ Some p)
          × (name_at h.shape b ≡ Some q) × (name_at h.shape w ≡ Some u)
      del_known p q u e =
          let old = s.entries_known p q u (del_keeps g.entries x y p q u e) in
          elim (pairs m k old.0 old.1) [
            | inl is ↦ (let n = names_same old.0 old.1 p q old.4 old.5 is.0 is.1 in
                let none : value_in (step.del_entry g.entries x y) p q ≡ None =
                ap (λ (r : Name). value_in (step.del_entry g.entries x y) r q) (sym n.0)
                ∙ ap (value_in (step.del_entry g.entries x y) x) (sym n.1) ∙ del_gone g.entries x y in
                absurd (cc (none, e)))
            | inr ne ↦ (
              old.0,
              old.1,
              old.2,
              found old.0 old.1 ∙ ap (λ (t : Bool). cond t None (value_of h.shape.weak old.0 old.1)) ne ∙ old.3,
              old.4,
              old.5,
              old.6,
            )
          ]

      pub shows-del : Shows (record h { shape = record h.shape { weak = weak }; looks = looks })
          (record g { entries = step.del_entry g.entries x y })
      shows-del = shows-entries h g weak looks (step.del_entry g.entries x y) s
          (λ a b w e. s.entries_held a b w (kept a b w e).1) del_are del_known

-- where there is no such entry, nothing is another
pub shows-absent : (h : HeapState) (g : GraphState) (m k : Place) (weak : WeakTableState) (looks : LooksState)
    → Shows h g
    → value_of h.shape.weak m k ≡ None
    → ((a b : Place) → value_of weak a b ≡ cond (is_same m a && is_same k b) None (value_of h.shape.weak a b))
    → Shows (record h { shape = record h.shape { weak = weak }; looks = looks }) g
shows-absent h g m k weak looks s none found = shows-entries h g weak looks g.entries s
    (λ a b w e. s.entries_held a b w (sym (same a b) ∙ e))
    (λ a b w p q u e. s.entries_are a b w p q u (sym (same a b) ∙ e))
    (λ p q u e. (let old = s.entries_known p q u e in
    (old.0, old.1, old.2, same old.0 old.1 ∙ old.3, old.4, old.5, old.6)))
  where
    same : (a b : Place) → value_of weak a b ≡ value_of h.shape.weak a b
    same a b = elim (pairs m k a b) [
      | inl is ↦ found a b
          ∙ (let at : value_of h.shape.weak a b ≡ None = ap (λ (r : Place). value_of h.shape.weak r b) (sym is.0)
          ∙ ap (value_of h.shape.weak m) (sym is.1) ∙ none in go (is_same m a && is_same k b) at)
      | inr apart ↦ found a b ∙ ap (λ (t : Bool). cond t None (value_of h.shape.weak a b)) apart
    ]
      where
        go : (t : Bool) → value_of h.shape.weak a b ≡ None → cond t None (value_of h.shape.weak a b)
            ≡ value_of h.shape.weak a b
        go true e = sym e
        go false e = refl

-- the names of an entry's three cells, and that it is not refused
pub record IsEntryShown (h : HeapState) (g : GraphState) (m k v : ℕ) (map key value : Place) : Type 0 where
  pub x : IsNamed h map
  pub y : IsNamed h key
  pub z : IsNamed h value
  pub map_is : register_cell g m ≡ Some x.cell.name
  pub key_is : register_cell g k ≡ Some y.cell.name
  pub value_is : register_cell g v ≡ Some z.cell.name
  pub there : IsPresent h.shape map × IsPresent h.shape key × IsPresent h.shape value
  pub allowed : step.entry_refusal g x.cell.name y.cell.name z.cell.name ≡ None

pub entry_shown : (h : HeapState) (g : GraphState) (m k v : ℕ) (map key value : Place) → Shows h g
    → IsEntry h m k v map key value → IsEntryShown h g m k v map key value
entry_shown h g m k v map key value s i =
    let a = reg_present h g m map s i.map_held in
    let b = reg_present h g k key s i.key_held in
    let c = reg_present h g v value s i.value_held in
    let x = named_there h map a in
    let y = named_there h key b in
    let z = named_there h value c in
    record {
      x = x;
      y = y;
      z = z;
      map_is = reg_named h g m map x.cell s i.map_held x.cell_is;
      key_is = reg_named h g k key y.cell s i.key_held y.cell_is;
      value_is = reg_named h g v value z.cell s i.value_held z.cell_is;
      there = (a, b, c);
      allowed = refusal_shown h g map key value x y z s ∙ i.allowed;
    }

-- `put`
put_step : (h : HeapState) (g : GraphState) (m k v : ℕ) (map key value : Place)
    (i : IsEntryShown h g m k v map key value)
    → step_of g (cmd.Put m k v)
    ≡ (record g { entries = step.put_entry g.entries i.x.cell.name i.y.cell.name i.z.cell.name }, reply.Accepted)
put_step h g m k v map key value i =
    ap (λ (o : Option Name). put_from g o (register_cell g k) (register_cell g v)) i.map_is
    ∙ ap (λ (o : Option Name). put_from g (Some i.x.cell.name) o (register_cell g v)) i.key_is
    ∙ ap (λ (o : Option Name). put_from g (Some i.x.cell.name) (Some i.y.cell.name) o) i.value_is
    ∙ ap (step.put_unless g i.x.cell.name i.y.cell.name i.z.cell.name) i.allowed

pub does-put : (h new : HeapState) (m k v : ℕ) (map key value : Place) → IsEntry h m k v map key value
    → IsWith h map key value new → DoesStep h (cmd.Put m k v) (Ok reply.Accepted) new
does-put h new m k v map key value i w = does-accepted h (cmd.Put m k v) reply.Accepted new
    (λ g s. (
    let n = entry_shown h g m k v map key value s i in
    record {
      after = record g { entries = step.put_entry g.entries n.x.cell.name n.y.cell.name n.z.cell.name };
      step = put_step h g m k v map key value n;
      sure = refl;
      shows = subst (λ (z : HeapState). Shows z
          (record g { entries = step.put_entry g.entries n.x.cell.name n.y.cell.name n.z.cell.name })) (sym w.rest)
          (shows-put h g map key value n.x.cell.name n.y.cell.name n.z.cell.name s n.x.name_is n.y.name_is
          n.z.name_is n.there new.shape.weak new.looks w.values);
    }))

pub does-put_wanting : (h : HeapState) (m k v : ℕ) (map key value : Place) → IsEntry h m k v map key value
    → DoesStep h (cmd.Put m k v) (Err fault.NoMemory) h
does-put_wanting h m k v map key value i =
    does-wanting h (cmd.Put m k v)
    (λ g s. ap (λ (p : GraphState × Reply). refusal_in p.1)
    (put_step h g m k v map key value (entry_shown h g m k v map key value s i)))

-- `del`
del_step : (h : HeapState) (g : GraphState) (m k : ℕ) (map key value : Place) → Shows h g
    → (i : IsEntryShown h g m k k map key value)
    → step_of g (cmd.Del m k) ≡ step.del_value g i.x.cell.name i.y.cell.name
    (held_name h.shape (value_of h.shape.weak map key))
del_step h g m k map key value s i =
    let same : i.z.cell.name ≡ i.y.cell.name = cc (sym i.value_is ∙ i.key_is) in
    ap (λ (o : Option Name). del_from g o (register_cell g k)) i.map_is
    ∙ ap (λ (o : Option Name). del_from g (Some i.x.cell.name) o) i.key_is
    ∙ ap (step.del_unless g i.x.cell.name i.y.cell.name)
    (ap (step.entry_refusal g i.x.cell.name i.y.cell.name) (sym same) ∙ i.allowed)
    ∙ ap (step.del_value g i.x.cell.name i.y.cell.name)
    (value_shown h g map key i.x.cell.name i.y.cell.name s i.x.name_is i.y.name_is)

del_sure : (g : GraphState) (x y : Name) (o : Option Name) → refusal_in (step.del_value g x y o).1 ≡ None
del_sure g x y None = refl
del_sure g x y (Some z) = refl

pub del_accepted : (h : HeapState) (g : GraphState) (m k : ℕ) (map key value : Place) → Shows h g
    → IsEntry h m k k map key value → refusal_in (step_of g (cmd.Del m k)).1 ≡ None
del_accepted h g m k map key value s i =
    let n = entry_shown h g m k k map key value s i in
    ap (λ (p : GraphState × Reply). refusal_in p.1) (del_step h g m k map key value s n)
    ∙ del_sure g n.x.cell.name n.y.cell.name (held_name h.shape (value_of h.shape.weak map key))

pub does-del : (h new : HeapState) (m k : ℕ) (map key value : Place) (v : Place) → IsEntry h m k k map key value
    → value_of h.shape.weak map key ≡ Some v → IsWithout h map key new
    → DoesStep h (cmd.Del m k) (Ok reply.Accepted) new
does-del h new m k map key value v i was w = does-accepted h (cmd.Del m k) reply.Accepted new
    (λ g s. (
    let n = entry_shown h g m k k map key value s i in
    let old = named_there h v (s.entries_held map key v was).2 in
    record {
      after = record g { entries = step.del_entry g.entries n.x.cell.name n.y.cell.name };
      step = del_step h g m k map key value s n
          ∙ ap (λ (o : Option Place). step.del_value g n.x.cell.name n.y.cell.name (held_name h.shape o)) was
          ∙ ap (step.del_value g n.x.cell.name n.y.cell.name) old.name_is;
      sure = refl;
      shows = subst (λ (z : HeapState). Shows z
          (record g { entries = step.del_entry g.entries n.x.cell.name n.y.cell.name })) (sym w.rest)
          (shows-del h g map key value n.x.cell.name n.y.cell.name n.z.cell.name s n.x.name_is n.y.name_is
          n.z.name_is n.there new.shape.weak new.looks w.values);
    }))

pub does-del_absent : (h new : HeapState) (m k : ℕ) (map key value : Place) → IsEntry h m k k map key value
    → value_of h.shape.weak map key ≡ None → IsWithout h map key new
    → DoesStep h (cmd.Del m k) (Ok reply.Absent) new
does-del_absent h new m k map key value i was w = does-accepted h (cmd.Del m k) reply.Absent new
    (λ g s. (
    let n = entry_shown h g m k k map key value s i in
    record {
      after = g;
      step = del_step h g m k map key value s n
          ∙ ap (λ (o : Option Place). step.del_value g n.x.cell.name n.y.cell.name (held_name h.shape o)) was;
      sure = refl;
      shows = subst (λ (z : HeapState). Shows z g) (sym w.rest)
          (shows-absent h g map key new.shape.weak new.looks s was w.values);
    }))

-- `find`
pub finds : (h : HeapState) (m k : ℕ) (map key value : Place) → IsEntry h m k k map key value
    → Hands h (λ r. cmd.Find r m k) (Ok (value_of h.shape.weak map key))
finds h m k map key value i r g s =
    let n = entry_shown h g m k k map key value s i in
    let same : n.z.cell.name ≡ n.y.cell.name = cc (sym n.value_is ∙ n.key_is) in
    ap (λ (o : Option Name). find_from g r o (register_cell g k)) n.map_is
    ∙ ap (λ (o : Option Name). find_from g r (Some n.x.cell.name) o) n.key_is
    ∙ ap (step.find_unless g r n.x.cell.name n.y.cell.name)
    (ap (step.entry_refusal g n.x.cell.name n.y.cell.name) (sym same) ∙ n.allowed)
    ∙ ap (take_in_register g r) (value_shown h g map key n.x.cell.name n.y.cell.name s n.x.name_is n.y.name_is)
