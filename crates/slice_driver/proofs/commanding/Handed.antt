-- What the barriers of a command expose while a collection is being prepared: what is black already where its colour
-- counts, or what the command wakes.
use Rattle.std.proofs.Common.{◌≡◌, ◌⊎◌, ℕ, Bool, true, false, Option, Some, None, slice_get, slice_index_or}
use Rattle.std.proofs.Common.{if◌then◌else◌, inl, inr, refl, sym, ap, subst, ◌∙◌, List}
use Rattle.std.specs.Prelude.{option_and_then}
use Rattle.std.specs.Option.{option_map}
use Rattle.gz_names.specs.declared.commands.GraphCmd.{GraphCmd}
use Rattle.gz_names.specs.declared.commands.GraphCmd.TheVariants as cmd
use Rattle.gz_names.specs.declared.names.Name.{Name}
use Rattle.gz_names.specs.declared.names.Name.TheVariants.{Cell, Wrap}
use Rattle.gz_names.specs.declared.numbers.CompNo.{CompNo}
use Rattle.gz_names.specs.declared.numbers.Place.{Place}
use Rattle.arena_table.specs.Cells.{CellState, joined}
use Rattle.mark_stack.specs.Stack.{Piles}
use Rattle.weak_maps.specs.WeakMaps.{value_of}
use Rattle.wrappers.specs.WrapperMaps.{place_of}
use Rattle.colour_defs.specs.Graph.{GraphState, register_cell, slot_cell}
use Rattle.colour_defs.specs.Laws.{IsValid}
use Rattle.colour_defs.specs.Step.{IsAccepted, get_from, is_in_comp, is_same_comp, refusal_in, set_from, target_of}
use Rattle.colour_defs.specs.Step.{unwrap_from}
use Rattle.colour_defs.specs.Step as step
use Rattle.colour_defs.specs.World.{World, also_woken_by, target_cell, woken_by, woken_by_wrap}
use Rattle.colour_defs.proofs.Lists.{get_contains}
use Rattle.colour_defs.proofs.Membership.{same_zone_of}
use Rattle.heap_core.specs.Shape.{cell_of, comp_at, field_at, field_in, held_name, is_prepared, name_at, zone_of}
use Rattle.heap_core.specs.Heap.{HeapState, reg_of}
use Rattle.heap_core.specs.Lookups.{number_at, seen_from, target_at}
use Rattle.heap_core.specs.Peeks.{handed, stored, wrapped_target}
use Rattle.heap_core.specs.Shows.{StandsFor}
use Rattle.heap_core.proofs.Seen.{comp_tested, target_there}
use Rattle.heap_core.proofs.Shown.{reg_present, reg_shown, slot_present, slot_shown}
use Rattle.barriers.specs.Colours.{IsBlack}
use Rattle.barriers.specs.LeftOut.{Counts, PreparingInvariant}
use Rattle.barriers.specs.LeftOut as reached
use Rattle.barriers.proofs.LeftOut.{left_out_closed}
use Rattle.slice_driver.specs.Worlds.{LiesIn}
use Rattle.slice_driver.proofs.abstraction.Lying.{zone_named}
use Rattle.slice_driver.proofs.abstraction.Moving.{field_below}
use Rattle.slice_driver.proofs.abstraction.Named.{edge_named, name_of, named_cell, some_one}

-- where nothing is woken but the second name of a command, each cell that is exposed is black or has that name; and
-- what has that name is exposed
pub record HandsNear (h : HeapState) (w : World) (g : GraphState) (c : GraphCmd) (old target given : Option Place)
    : Type 0
  where
    pub first : (q : Place) → old ≡ Some q → Counts h.shape q → IsBlack h q
    pub second : (q : Place) → target ≡ Some q → also_woken_by w.graph c ≡ name_at h.shape q
    pub third : woken_by g c ≡ None → (q : Place) → given ≡ Some q
        → (Counts h.shape q → IsBlack h q) ⊎ (also_woken_by w.graph c ≡ name_at h.shape q)
    pub also : (x : Name) → also_woken_by w.graph c ≡ Some x → (q : Place) × (name_at h.shape q ≡ Some x)
        × ((target ≡ Some q) ⊎ (given ≡ Some q))
    pub given_also : woken_by g c ≡ None → (x : Name) → also_woken_by w.graph c ≡ Some x → (q : Place)
        × (given ≡ Some q)

module _ (h : HeapState) (s : Piles) (inv : PreparingInvariant h s) (w : World) (ok : IsValid w) (l : LiesIn h w) where
  none_handed : (c : GraphCmd) → also_woken_by w.graph c ≡ None → HandsNear h w l.graph c None None None
  none_handed c nothing = record {
    first = λ q e. absurd (cc e);
    second = λ q e. absurd (cc e);
    third = λ none q e. absurd (cc e);
    also = λ x e. absurd (cc (nothing, e));
    given_also = λ none x e. absurd (cc (nothing, e));
  }

  -- what a register holds
  held_black : (r : ℕ) (q : Place) → reg_of h r ≡ Some q → Counts h.shape q → IsBlack h q
  held_black r q e counts = inv.holds.colours.regs_black q (get_contains h.shape.regs r q e) counts

  held_name_is : (r : ℕ) (q : Place) (x : Name) → reg_of h r ≡ Some q → name_at h.shape q ≡ Some x
      → register_cell w.graph r ≡ Some x
  held_name_is r q x e named = ap (λ (rs : List (Option Name)). slice_index_or rs r None) (sym l.part.part.registers)
      ∙ (reg_shown h l.graph r l.shown ∙ (ap (held_name h.shape) e ∙ named))

  empty_named : (r : ℕ) → reg_of h r ≡ None → register_cell w.graph r ≡ None
  empty_named r e = ap (λ (rs : List (Option Name)). slice_index_or rs r None) (sym l.part.part.registers)
      ∙ (reg_shown h l.graph r l.shown ∙ ap (held_name h.shape) e)

  -- a field of an object that a register holds stays in its zone
  field_black : (r : ℕ) (q t : Place) (f n : ℕ) → reg_of h r ≡ Some q → name_at h.shape q ≡ Some (Cell n)
      → field_at h.shape q f ≡ Some t → Counts h.shape t → IsBlack h t
  field_black r q t f n held named e counts =
      let there = l.shown.fields_held q t f e in
      let y = name_of h.shape t there in
      let leads = edge_named h w l q t (Cell n) y.0 named y.1 (f, field_below h l.graph l.shown q t f e, e) in
      let same : zone_of h.shape q ≡ zone_of h.shape t = some_one _ _
      (sym (zone_named h l.graph w.graph q (Cell n) l.shown l.part.part named)
      ∙ (same_zone_of w.graph (Cell n) y.0 (ok.graph.fields n y.0 leads)
      ∙ zone_named h l.graph w.graph t y.0 l.shown l.part.part y.1)) in
      let counts_there : Counts h.shape q = ap (is_prepared h.shape) same ∙ counts in
      left_out_closed h s inv (reached.along (reached.from counts_there (held_black r q held counts_there))
      (f, field_below h l.graph l.shown q t f e, e) counts)

  -- a value whose map and key registers hold
  value_black : (rm rk : ℕ) (m k v : Place) → reg_of h rm ≡ Some m → reg_of h rk ≡ Some k
      → value_of h.shape.weak m k ≡ Some v → Counts h.shape v → IsBlack h v
  value_black rm rk m k v held_map held_key e counts =
      let zones = inv.holds.colours.shape.one_zone m k v e in
      let cm : Counts h.shape m = ap (is_prepared h.shape) zones.0 ∙ counts in
      let ck : Counts h.shape k = ap (is_prepared h.shape) zones.1 ∙ counts in
      left_out_closed h s inv (reached.weak e counts (reached.from cm (held_black rm m held_map cm))
      (reached.from ck (held_black rk k held_key ck)))

  values_black : (rm rk : ℕ) (q : Place) (o u : Option Place) → reg_of h rm ≡ o → reg_of h rk ≡ u
      → option_and_then (λ map. option_and_then (λ key. value_of h.shape.weak map key) u) o ≡ Some q
      → Counts h.shape q → IsBlack h q
  values_black rm rk q None u a b e = absurd (cc e)
  values_black rm rk q (Some m) None a b e = absurd (cc e)
  values_black rm rk q (Some m) (Some k) a b e = value_black rm rk m k q a b e

  held_value_black : (rm rk : ℕ) (q : Place)
      → option_and_then (λ map. option_and_then (λ key. value_of h.shape.weak map key) (reg_of h rk)) (reg_of h rm)
      ≡ Some q → Counts h.shape q → IsBlack h q
  held_value_black rm rk q e = values_black rm rk q (reg_of h rm) (reg_of h rk) refl refl e

  fields_black : (r f : ℕ) (q : Place) (o : Option Place) → reg_of h r ≡ o
      → ((p : Place) (c : CompNo) (t : ℕ) → reg_of h r ≡ Some p → name_at h.shape p ≡ Some (Wrap c t) → ⊥)
      → option_and_then (λ p. field_at h.shape p f) o ≡ Some q → Counts h.shape q → IsBlack h q
  fields_black r f q None held plain e counts = absurd (cc e)
  fields_black r f q (Some p) held plain e counts =
      go (name_of h.shape p (reg_present h l.graph r p l.shown held)).0
      (name_of h.shape p (reg_present h l.graph r p l.shown held)).1
    where
      go : (x : Name) → name_at h.shape p ≡ Some x → IsBlack h q
      go (Cell n) named = field_black r p q f n held named e counts
      go (Wrap c t) named = absurd (plain p c t held named)

  -- `get` and `set` are refused for wrappers
  get_plain : (r r' f : ℕ) → IsAccepted w.graph (cmd.Get r' r f) → (p : Place) (c : CompNo) (t : ℕ)
      → reg_of h r ≡ Some p → name_at h.shape p ≡ Some (Wrap c t) → ⊥
  get_plain r r' f accepted p c t held named =
      (let refused = ap (λ (o : Option Name). refusal_in (get_from w.graph r' o f).1)
      (held_name_is r p (Wrap c t) held named) in
      cc (accepted, refused))

  set_plain : (r f : ℕ) (v : Option ℕ) → IsAccepted w.graph (cmd.Set r f v) → (p : Place) (c : CompNo) (t : ℕ)
      → reg_of h r ≡ Some p → name_at h.shape p ≡ Some (Wrap c t) → ⊥
  set_plain r f v accepted p c t held named = go (step.value_to_set w.graph v) refl
    where
      go : (u : Option (Option Name)) → step.value_to_set w.graph v ≡ u → ⊥
      go None e =
          (let refused = ap (λ (o : Option Name). refusal_in (set_from w.graph o f (step.value_to_set w.graph v)).1)
          (held_name_is r p (Wrap c t) held named)
          ∙ ap (λ u. refusal_in (set_from w.graph (Some (Wrap c t)) f u).1) e in
          cc (accepted, refused))
      go (Some u) e =
          (let refused = ap (λ (o : Option Name). refusal_in (set_from w.graph o f (step.value_to_set w.graph v)).1)
          (held_name_is r p (Wrap c t) held named)
          ∙ ap (λ z. refusal_in (set_from w.graph (Some (Wrap c t)) f z).1) e in
          cc (accepted, refused))

  -- what `wrap` is about
  target_named : (r : ℕ) (p : Place) → reg_of h r ≡ Some p
      → target_cell (register_cell w.graph r) ≡ name_at h.shape (target_at h.shape p)
  target_named r p held =
      let n = name_of h.shape p (reg_present h l.graph r p l.shown held) in
      let cell = named_cell h.shape p n.0 n.1 in
      let t = target_there h l.graph p cell.0 l.shown cell.1 in
      ap target_cell (held_name_is r p n.0 held n.1)
      ∙ (ap (λ (y : Name). Some (Cell (target_of y))) (sym cell.2)
      ∙ (ap (λ (i : ℕ). Some (Cell i)) t.number_is ∙ sym t.name_is))

  wraps : (r r' : ℕ) (c : CompNo) (o : Option Place) → reg_of h r ≡ o
      → HandsNear h w l.graph (cmd.Wrap r' r c) None (option_map (target_at h.shape) o)
      (option_and_then (λ p. seen_from h.shape c (target_at h.shape p)) o)
  wraps r r' c None held = record {
    first = λ q e. absurd (cc e);
    second = λ q e. absurd (cc e);
    third = λ none q e. absurd (cc e);
    also = λ x e. absurd (let none = ap target_cell (empty_named r held) in cc (none, e));
    given_also = λ none x e. absurd (let nothing = ap target_cell (empty_named r held) in cc (nothing, e));
  }
  wraps r r' c (Some p) held = record {
    first = λ q e. absurd (cc e);
    second = λ q e. target_named r p held ∙ ap (name_at h.shape) (some_one _ _ e);
    third = λ none q e. inr (target_named r p held ∙ ap (name_at h.shape) (itself none q e));
    also = λ x e. (target_at h.shape p, sym (target_named r p held) ∙ e, inl refl);
    given_also = λ none x e. (target_at h.shape p, seen none);
  }
    where
      n : (x : Name) × (name_at h.shape p ≡ Some x)
      n = name_of h.shape p (reg_present h l.graph r p l.shown held)

      cell : (d : CellState) × (cell_of h.shape p ≡ Some d) × (d.name ≡ n.0)
      cell = named_cell h.shape p n.0 n.1

      wakes : woken_by l.graph (cmd.Wrap r' r c)
          ≡ (if is_same_comp (comp_at h.shape (target_at h.shape p)) c then None else Some (Wrap c (target_of n.0)))
      wakes =
          let t = target_there h l.graph p cell.0 l.shown cell.1 in
          let number : target_of n.0 ≡ t.number = ap target_of (sym cell.2) ∙ t.number_is in
          let tested = comp_tested h l.graph c (target_at h.shape p) (Cell t.number) l.shown t.name_is in
          ap (λ (o : Option Name). woken_by_wrap l.graph o c)
          (reg_shown h l.graph r l.shown ∙ (ap (held_name h.shape) held ∙ n.1))
          ∙ ap (λ (b : Bool). if b then None else Some (Wrap c (target_of n.0)))
          (ap (λ (i : ℕ). is_in_comp l.graph c (Cell i)) number ∙ tested)

      -- where no wrapper is woken, the compartment sees the target itself
      seen : woken_by l.graph (cmd.Wrap r' r c) ≡ None
          → seen_from h.shape c (target_at h.shape p) ≡ Some (target_at h.shape p)
      seen none = go (is_same_comp (comp_at h.shape (target_at h.shape p)) c) refl
        where
          go : (b : Bool) → is_same_comp (comp_at h.shape (target_at h.shape p)) c ≡ b
              → (if b then Some (target_at h.shape p)
              else place_of h.shape.wrappers c.0 (number_at h.shape (target_at h.shape p)))
              ≡ Some (target_at h.shape p)
          go true same = refl
          go false same = absurd (
              let some = wakes ∙ ap (λ (b : Bool). if b then None else Some (Wrap c (target_of n.0))) same in
              cc (none, some))

      itself : woken_by l.graph (cmd.Wrap r' r c) ≡ None → (q : Place)
          → seen_from h.shape c (target_at h.shape p) ≡ Some q → target_at h.shape p ≡ q
      itself none q e = some_one _ _ (sym (seen none) ∙ e)

  -- what `unwrap` hands out
  unwraps : (r r' : ℕ) → IsAccepted w.graph (cmd.Unwrap r' r) → (o : Option Place) → reg_of h r ≡ o
      → HandsNear h w l.graph (cmd.Unwrap r' r) None None (option_and_then (λ p. field_at h.shape p 0) o)
  unwraps r r' accepted None held = record {
    first = λ q e. absurd (cc e);
    second = λ q e. absurd (cc e);
    third = λ none q e. absurd (cc e);
    also = λ x e. absurd (let none = ap target_cell (empty_named r held) in cc (none, e));
    given_also = λ none x e. absurd (let nothing = ap target_cell (empty_named r held) in cc (nothing, e));
  }
  unwraps r r' accepted (Some p) held = by n.0 n.1
    where
      n : (x : Name) × (name_at h.shape p ≡ Some x)
      n = name_of h.shape p (reg_present h l.graph r p l.shown held)

      by : (x : Name) → name_at h.shape p ≡ Some x
          → HandsNear h w l.graph (cmd.Unwrap r' r) None None (field_at h.shape p 0)
      by (Cell i) named = absurd (
          let refused = ap (λ (o : Option Name). refusal_in (unwrap_from w.graph r' o).1)
          (held_name_is r p (Cell i) held named) in
          cc (accepted, refused))
      by (Wrap c t) named =
          let cell = named_cell h.shape p (Wrap c t) named in
          let stands : StandsFor h.shape l.graph p cell.0 (Wrap c t) =
          subst (λ z. StandsFor h.shape l.graph p cell.0 z) cell.2 (l.shown.cells p cell.0 cell.1).stands in
          let first : field_at h.shape p 0 ≡ Some stands.target = ap (λ o. field_in o 0) cell.1
          ∙ ap (λ fs. joined (slice_get fs 0)) stands.fields_is in
          let woken : also_woken_by w.graph (cmd.Unwrap r' r) ≡ Some (Cell t) =
          ap target_cell (held_name_is r p (Wrap c t) held named) in
          record {
            first = λ q e. absurd (cc e);
            second = λ q e. absurd (cc e);
            third = λ none q e. inr (woken ∙ (sym stands.target_is
                ∙ ap (name_at h.shape) (some_one _ _ (sym first ∙ e))));
            also = λ x e. (stands.target, stands.target_is ∙ (sym woken ∙ e), inr first);
            given_also = λ none x e. (stands.target, first);
          }

  pub hands_near : (c : GraphCmd) → IsAccepted w.graph c
      → HandsNear h w l.graph c (stored h c) (wrapped_target h c) (handed h c)
  hands_near cmd.Zone accepted = none_handed cmd.Zone refl
  hands_near (cmd.Comp z) accepted = none_handed (cmd.Comp z) refl
  hands_near (cmd.New r c n) accepted = none_handed (cmd.New r c n) refl
  hands_near (cmd.Map r c) accepted = none_handed (cmd.Map r c) refl
  hands_near (cmd.Get r s f) accepted = record {
    first = λ q e. absurd (cc e);
    second = λ q e. absurd (cc e);
    third = λ none q e. inl (fields_black s f q (reg_of h s) refl (get_plain s r f accepted) e);
    also = λ x e. absurd (cc e);
    given_also = λ none x e. absurd (cc e);
  }
  hands_near (cmd.Set s f t) accepted = record {
    first = λ q e. fields_black s f q (reg_of h s) refl (set_plain s f t accepted) e;
    second = λ q e. absurd (cc e);
    third = λ none q e. absurd (cc e);
    also = λ x e. absurd (cc e);
    given_also = λ none x e. absurd (cc e);
  }
  hands_near (cmd.Wrap r s c) accepted = wraps s r c (reg_of h s) refl
  hands_near (cmd.Unwrap r s) accepted = unwraps s r accepted (reg_of h s) refl
  hands_near (cmd.Copy r s) accepted = record {
    first = λ q e. absurd (cc e);
    second = λ q e. absurd (cc e);
    third = λ none q e. inl (held_black s q e);
    also = λ x e. absurd (cc e);
    given_also = λ none x e. absurd (cc e);
  }
  hands_near (cmd.Drop r) accepted = none_handed (cmd.Drop r) refl
  hands_near (cmd.Hold g r) accepted = none_handed (cmd.Hold g r) refl
  hands_near (cmd.Release g) accepted = none_handed (cmd.Release g) refl
  hands_near (cmd.Expose r g) accepted = record {
    first = λ q e. absurd (cc e);
    second = λ q e. absurd (cc e);
    third = λ none q e. absurd (
        let x = name_of h.shape q (slot_present h l.graph g q l.shown e) in
        let named : slot_cell l.graph g ≡ Some x.0 = slot_shown h l.graph g l.shown ∙ (ap (held_name h.shape) e ∙ x.1)
        in
        cc (none, named));
    also = λ x e. absurd (cc e);
    given_also = λ none x e. absurd (cc e);
  }
  hands_near (cmd.Put m k v) accepted = record {
    first = λ q e. held_value_black m k q e;
    second = λ q e. absurd (cc e);
    third = λ none q e. absurd (cc e);
    also = λ x e. absurd (cc e);
    given_also = λ none x e. absurd (cc e);
  }
  hands_near (cmd.Del m k) accepted = record {
    first = λ q e. held_value_black m k q e;
    second = λ q e. absurd (cc e);
    third = λ none q e. absurd (cc e);
    also = λ x e. absurd (cc e);
    given_also = λ none x e. absurd (cc e);
  }
  hands_near (cmd.Find r m k) accepted = record {
    first = λ q e. absurd (cc e);
    second = λ q e. absurd (cc e);
    third = λ none q e. inl (held_value_black m k q e);
    also = λ x e. absurd (cc e);
    given_also = λ none x e. absurd (cc e);
  }
