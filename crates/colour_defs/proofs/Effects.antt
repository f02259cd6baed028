-- What a command does to a graph, by kinds.
use Rattle.std.proofs.Common.{◌≡◌, ℕ, ◌+◌, [], ◌∷◌, ◌++◌, length, cond, Bool, true, false, ◌&&◌, refl, sym, ap, subst}
use Rattle.std.proofs.Common.{◌∙◌, eqb-true, Option, Some, None, Contains, slice_get, slice_set, nat_lt}
use Rattle.gz_names.specs.declared.limits.TheConstants.{ZONE_LIMIT, COMP_LIMIT}
use Rattle.gz_names.specs.declared.names.Name.{Name}
use Rattle.gz_names.specs.declared.names.Name.TheVariants.{Cell, Wrap}
use Rattle.gz_names.specs.declared.numbers.CompNo.{CompNo}
use Rattle.gz_names.specs.declared.commands.GraphCmd.{GraphCmd}
use Rattle.gz_names.specs.declared.commands.GraphCmd.TheVariants as cmd
use Rattle.gz_names.specs.declared.replies.Reply.{Reply}
use Rattle.gz_names.specs.declared.replies.Reply.TheVariants as reply
use Rattle.gz_names.specs.declared.replies.Refusal.{Refusal}
use Rattle.gz_names.specs.declared.replies.Refusal.TheVariants as refusal
use Rattle.colour_defs.specs.declared.graph.Object.{Object}
use Rattle.colour_defs.specs.Graph.{GraphState, object_of, register_cell, slot_cell, has_wrapper, value_of, comp_of}
use Rattle.colour_defs.specs.Graph.{comp_of_object}
use Rattle.colour_defs.specs.Closure.{HasEdge, HoldsInField}
use Rattle.colour_defs.specs.Step.{step_of, with_register, with_field, fits_comp, is_in_comp, is_same_comp, put_entry}
use Rattle.colour_defs.specs.Step.{del_entry, get_from, get_in, get_value, set_from, set_in, value_to_set, some_value}
use Rattle.colour_defs.specs.Step.{wrap_from, take_wrapper, unwrap_from, target_of, put_from, put_unless, del_from}
use Rattle.colour_defs.specs.Step.{del_unless, del_value, find_from, find_unless, entry_refusal, entry_refusal_in}
use Rattle.colour_defs.specs.Step.{map_comp, map_comp_in, new_object, new_map, make_object}
use Rattle.colour_defs.specs.World.{woken_by, woken_by_wrap, also_woken_by, target_cell}
use Rattle.colour_defs.specs.Laws.{IsSameComp, IsNoWrapper}
use Rattle.colour_defs.proofs.Lists.{contains_at, choose, no_name_in_nulls, nothing_in_none}
use Rattle.colour_defs.proofs.Names.{same_comp}

-- what a command wakes, and what it wakes besides while a collection is prepared
pub record Waking : Type 0 where
  pub first : Option Name
  pub also : Option Name

abbrev pub waking_of : GraphState → GraphCmd → Waking
waking_of g c = record { first = woken_by g c; also = also_woken_by g c }

abbrev pub no_waking : Waking
no_waking = record { first = None; also = None }

-- the second alone
abbrev pub only_also : Name → Waking
only_also x = record { first = None; also = Some x }

-- where a name that a command writes comes from
pub data Source (g : GraphState) (w : Waking) (x : Name) : Type 0 where
  register : (r : ℕ) → register_cell g r ≡ Some x → Source g w x
  target : (r n : ℕ) → register_cell g r ≡ Some (Cell n) → HasEdge g (Cell n) x → Source g w x
  unwrapped : (r : ℕ) (c : CompNo) (t : ℕ) → register_cell g r ≡ Some (Wrap c t) → Cell t ≡ x → w.also ≡ Some x
      → Source g w x
  value : (a b : ℕ) (m k : Name) → register_cell g a ≡ Some m → register_cell g b ≡ Some k → value_of g m k ≡ Some x
      → Source g w x
  woken : w.first ≡ Some x → Source g w x

-- a command writes this, or nothing
abbrev pub From : GraphState → Waking → Option Name → Type 0
From g w x = (y : Name) → x ≡ Some y → Source g w y

abbrev pub HoldsNothing : Object → Type 0
HoldsNothing o = (y : Name) → Contains o.fields (Some y) → ⊥

-- some register holds x
abbrev pub IsHeld : GraphState → Name → Type 0
IsHeld g x = (b : ℕ) × (register_cell g b ≡ Some x)

-- an entry that is not refused
pub record EntryOk (g : GraphState) (m k v : Name) : Type 0 where
  pub key : IsSameComp g m k
  pub value : IsSameComp g m v
  pub map_cell : IsNoWrapper m
  pub key_held : IsHeld g k

-- what a command does to a graph: nothing, or a change of one of these kinds. w is the name that it wakes
pub data Effect (g : GraphState) (w : Waking) : GraphState → Type 0 where
  keeps : Effect g w g
  zones : (n : ℕ) → Effect g w (record g { zones = n })
  comps : (z : ℕ) → Effect g w (record g { comps = g.comps ++ z ∷ [] })
  makes : (r : ℕ) (o : Object) → HoldsNothing o → w.first ≡ Some (Cell (length g.objects))
      → Effect g w (record g {
        objects = g.objects ++ Some o ∷ [];
        registers = slice_set g.registers r (Some (Cell (length g.objects)));
      })
  takes : (r : ℕ) (x : Option Name) → From g w x → Effect g w (with_register g r x)
  wraps : (r : ℕ) (c : CompNo) (t : ℕ) → w.first ≡ Some (Wrap c t) → Source g w (Cell t)
      → Effect g w (record (with_register g r (Some (Wrap c t))) { wrappers = g.wrappers ++ (c, t) ∷ [] })
  writes : (n : ℕ) (o : Object) (f : ℕ) (v : Option Name) → object_of g n ≡ Some o → From g w v
      → fits_comp g o.comp v ≡ true → Effect g w (with_field g n o f v)
  slots : (k : ℕ) (x : Option Name) → From g w x → Effect g w (record g { slots = slice_set g.slots k x })
  puts : (m k v : Name) → EntryOk g m k v → Source g w v → Effect g w (record g { entries = put_entry g.entries m k v })
  dels : (m k : Name) → IsHeld g k → Effect g w (record g { entries = del_entry g.entries m k })

pub field_edge : (g : GraphState) (n : ℕ) (o : Object) (f : ℕ) (y : Name) → object_of g n ≡ Some o
    → slice_get o.fields f ≡ Some (Some y) → HasEdge g (Cell n) y
field_edge g n o f y at e = subst (λ z. HoldsInField z y) (sym at) (contains_at o.fields f (Some y) e)

get_value_effect : (g : GraphState) (w : Waking) (r s f n : ℕ) (o : Object) → register_cell g s ≡ Some (Cell n)
    → object_of g n ≡ Some o → (x : Option (Option Name)) → slice_get o.fields f ≡ x → Effect g w (get_value g r x).0
get_value_effect g w r s f n o e at None fe = keeps
get_value_effect g w r s f n o e at (Some x) fe =
    takes r x (λ y q. target s n e (field_edge g n o f y at (fe ∙ ap (λ z. Some z) q)))

get_in_effect : (g : GraphState) (w : Waking) (r s f n : ℕ) → register_cell g s ≡ Some (Cell n) → (o : Option Object)
    → object_of g n ≡ o → Effect g w (get_in g r o f).0
get_in_effect g w r s f n e None at = keeps
get_in_effect g w r s f n e (Some o) at = choose (λ (p : GraphState × Reply). Effect g w p.0) o.is_map _ _ (λ _. keeps)
    (λ _. get_value_effect g w r s f n o e at (slice_get o.fields f) refl)

get_effect : (g : GraphState) (w : Waking) (r s f : ℕ) (x : Option Name) → register_cell g s ≡ x
    → Effect g w (get_from g r x f).0
get_effect g w r s f None e = keeps
get_effect g w r s f (Some (Wrap c t)) e = keeps
get_effect g w r s f (Some (Cell n)) e = get_in_effect g w r s f n e (object_of g n) refl

set_in_effect : (g : GraphState) (w : Waking) (n f : ℕ) (v : Option Name) → From g w v → (o : Option Object)
    → object_of g n ≡ o → Effect g w (set_in g n o f v).0
set_in_effect g w n f v src None at = keeps
set_in_effect g w n f v src (Some o) at =
    choose (λ (p : GraphState × Reply). Effect g w p.0) o.is_map _ _ (λ _. keeps) (λ _.
    choose (λ (p : GraphState × Reply). Effect g w p.0) (nat_lt f (length o.fields)) _ _ (λ _.
    choose (λ (p : GraphState × Reply). Effect g w p.0) (fits_comp g o.comp v) _ _ (λ fits. writes n o f v at src fits)
    (λ _. keeps)) (λ _. keeps))

set_effect : (g : GraphState) (w : Waking) (f : ℕ) (x : Option Name) (v : Option (Option Name))
    → ((y : Name) → v ≡ Some (Some y) → Source g w y) → Effect g w (set_from g x f v).0
set_effect g w f None v src = keeps
set_effect g w f (Some x) None src = keeps
set_effect g w f (Some (Wrap c t)) (Some v) src = keeps
set_effect g w f (Some (Cell n)) (Some v) src =
    set_in_effect g w n f v (λ y e. src y (ap (λ z. Some z) e)) (object_of g n) refl

value_source : (g : GraphState) (w : Waking) (t : Option ℕ) (y : Name) → value_to_set g t ≡ Some (Some y) → Source g w y
value_source g w None y e = absurd (cc e)
value_source g w (Some t) y e = go (register_cell g t) refl e
  where
    go : (x : Option Name) → register_cell g t ≡ x → some_value x ≡ Some (Some y) → Source g w y
    go None h e = absurd (cc e)
    go (Some x) h e = let q : x ≡ y = cc e in register t (h ∙ ap (λ z. Some z) q)

-- the object or map that a register's name stands for
pub target_source : (g : GraphState) (w : Waking) (s : ℕ) (x : Name) → register_cell g s ≡ Some x
    → w.also ≡ Some (Cell (target_of x)) → Source g w (Cell (target_of x))
target_source g w s (Cell n) e also = register s e
target_source g w s (Wrap c t) e also = unwrapped s c t e refl also

take_wrapper_effect : (g : GraphState) (w : Waking) (r : ℕ) (c : CompNo) (t : ℕ) → w.first ≡ Some (Wrap c t)
    → Source g w (Cell t) → Effect g w (take_wrapper g r c t).0
take_wrapper_effect g w r c t is src = choose (λ (p : GraphState × Reply). Effect g w p.0) (has_wrapper g c t) _ _
    (λ _. takes r (Some (Wrap c t)) (λ y e. woken (is ∙ e))) (λ _. wraps r c t is src)

wrap_target_effect : (g : GraphState) (r s : ℕ) (x : Name) (c : CompNo) → register_cell g s ≡ Some x → (b : Bool)
    → is_in_comp g c (Cell (target_of x)) ≡ b
    → Effect g (record { first = cond b None (Some (Wrap c (target_of x))); also = Some (Cell (target_of x)) })
    (cond b (with_register g r (Some (Cell (target_of x))), reply.Named (Cell (target_of x)))
    (take_wrapper g r c (target_of x))).0
wrap_target_effect g r s x c e true is =
    takes r (Some (Cell (target_of x))) (λ y q. let same : Cell (target_of x) ≡ y = cc q in
    subst (λ z. Source g (only_also (Cell (target_of x))) z) same
    (target_source g (only_also (Cell (target_of x))) s x e refl))
wrap_target_effect g r s x c e false is =
    take_wrapper_effect g (record { first = Some (Wrap c (target_of x)); also = Some (Cell (target_of x)) }) r c
    (target_of x) refl (target_source g
    (record { first = Some (Wrap c (target_of x)); also = Some (Cell (target_of x)) }) s x e refl)

wrap_effect : (g : GraphState) (r s : ℕ) (c : CompNo) (x : Option Name) → register_cell g s ≡ x
    → Effect g (record { first = woken_by_wrap g x c; also = target_cell x }) (wrap_from g r x c).0
wrap_effect g r s c None e = keeps
wrap_effect g r s c (Some x) e =
    choose (λ (p : GraphState × Reply).
    Effect g (record { first = woken_by_wrap g (Some x) c; also = target_cell (Some x) }) p.0)
    (nat_lt c.0 (length g.comps)) _ _ (λ _. wrap_target_effect g r s x c e (is_in_comp g c (Cell (target_of x))) refl)
    (λ _. keeps)

unwrap_effect : (g : GraphState) (r s : ℕ) (x : Option Name) → register_cell g s ≡ x
    → Effect g (record { first = None; also = target_cell x }) (unwrap_from g r x).0
unwrap_effect g r s None e = keeps
unwrap_effect g r s (Some (Cell n)) e = keeps
unwrap_effect g r s (Some (Wrap c t)) e = takes r (Some (Cell t)) (λ y q. unwrapped s c t e (cc q) q)

pub is_comp : (o : Option CompNo) (c : CompNo) → is_same_comp o c ≡ true → o ≡ Some c
is_comp None c e = cc
is_comp (Some d) c e = ap (λ z. Some z) (same_comp d c (eqb-true _ _ e))

map_comp_is : (g : GraphState) (m : Name) (c : CompNo) → map_comp g m ≡ Some c → (comp_of g m ≡ Some c) × IsNoWrapper m
map_comp_is g (Wrap d t) c e = absurd (cc e)
map_comp_is g (Cell n) c e = (go (object_of g n) e, tt)
  where
    in_map : (o : Object) (b : Bool) → cond b (Some o.comp) None ≡ Some c → Some o.comp ≡ Some c
    in_map o true e = e
    in_map o false e = absurd (cc e)

    go : (o : Option Object) → map_comp_in o ≡ Some c → comp_of_object o ≡ Some c
    go None e = absurd (cc e)
    go (Some o) e = in_map o o.is_map e

pub entry_ok : (g : GraphState) (m k v : Name) → IsHeld g k → entry_refusal g m k v ≡ None → EntryOk g m k v
entry_ok g m k v held e = go (map_comp g m) refl e
  where
    fits : (c : CompNo) → map_comp g m ≡ Some c → (p q : Bool) → is_in_comp g c k ≡ p → is_in_comp g c v ≡ q
        → cond (p && q) None (Some refusal.Cross) ≡ None → EntryOk g m k v
    fits c at true true ep eq e = record {
      key = (c, (map_comp_is g m c at).0, is_comp (comp_of g k) c ep);
      value = (c, (map_comp_is g m c at).0, is_comp (comp_of g v) c eq);
      map_cell = (map_comp_is g m c at).1;
      key_held = held;
    }
    fits c at true false ep eq e = absurd (cc e)
    fits c at false q ep eq e = absurd (cc e)

    go : (o : Option CompNo) → map_comp g m ≡ o → entry_refusal_in g o k v ≡ None → EntryOk g m k v
    go None at e = absurd (cc e)
    go (Some c) at e = fits c at (is_in_comp g c k) (is_in_comp g c v) refl refl e

put_unless_effect : (g : GraphState) (w : Waking) (m k v : Name) → Source g w v → IsHeld g k → (o : Option Refusal)
    → entry_refusal g m k v ≡ o → Effect g w (put_unless g m k v o).0
put_unless_effect g w m k v src held (Some why) e = keeps
put_unless_effect g w m k v src held None e = puts m k v (entry_ok g m k v held e) src

put_effect : (g : GraphState) (w : Waking) (b c : ℕ) (m k v : Option Name) → register_cell g b ≡ k
    → register_cell g c ≡ v → Effect g w (put_from g m k v).0
put_effect g w b c None k v ek e = keeps
put_effect g w b c (Some m) None v ek e = keeps
put_effect g w b c (Some m) (Some k) None ek e = keeps
put_effect g w b c (Some m) (Some k) (Some v) ek e =
    put_unless_effect g w m k v (register c e) (b, ek) (entry_refusal g m k v) refl

del_value_effect : (g : GraphState) (w : Waking) (m k : Name) → IsHeld g k → (o : Option Name)
    → Effect g w (del_value g m k o).0
del_value_effect g w m k held None = keeps
del_value_effect g w m k held (Some v) = dels m k held

del_unless_effect : (g : GraphState) (w : Waking) (m k : Name) → IsHeld g k → (o : Option Refusal)
    → Effect g w (del_unless g m k o).0
del_unless_effect g w m k held (Some why) = keeps
del_unless_effect g w m k held None = del_value_effect g w m k held (value_of g m k)

del_effect : (g : GraphState) (w : Waking) (b : ℕ) (m k : Option Name) → register_cell g b ≡ k
    → Effect g w (del_from g m k).0
del_effect g w b None k ek = keeps
del_effect g w b (Some m) None ek = keeps
del_effect g w b (Some m) (Some k) ek = del_unless_effect g w m k (b, ek) (entry_refusal g m k k)

find_unless_effect : (g : GraphState) (w : Waking) (r a b : ℕ) (m k : Name) → register_cell g a ≡ Some m
    → register_cell g b ≡ Some k → (o : Option Refusal) → Effect g w (find_unless g r m k o).0
find_unless_effect g w r a b m k em ek (Some why) = keeps
find_unless_effect g w r a b m k em ek None = takes r (value_of g m k) (λ y q. value a b m k em ek q)

find_effect : (g : GraphState) (w : Waking) (r a b : ℕ) (m k : Option Name) → register_cell g a ≡ m
    → register_cell g b ≡ k → Effect g w (find_from g r m k).0
find_effect g w r a b None k em ek = keeps
find_effect g w r a b (Some m) None em ek = keeps
find_effect g w r a b (Some m) (Some k) em ek = find_unless_effect g w r a b m k em ek (entry_refusal g m k k)

make_effect : (g : GraphState) (r : ℕ) (o : Object) → HoldsNothing o
    → Effect g (record { first = Some (Cell (length g.objects)); also = None }) (make_object g r o).0
make_effect g r o nothing =
    choose (λ (p : GraphState × Reply). Effect g (record { first = Some (Cell (length g.objects)); also = None }) p.0)
    (nat_lt o.comp.0 (length g.comps)) _ _ (λ _. makes r o nothing refl) (λ _. keeps)

-- the one place where the sixteen commands are told apart
pub effect_of : (g : GraphState) (c : GraphCmd) → Effect g (waking_of g c) (step_of g c).0
effect_of g cmd.Zone = choose (λ (p : GraphState × Reply). Effect g no_waking p.0) (nat_lt g.zones ZONE_LIMIT) _ _
    (λ _. zones (g.zones + 1)) (λ _. keeps)
effect_of g (cmd.Comp z) = choose (λ (p : GraphState × Reply). Effect g no_waking p.0) (nat_lt z g.zones) _ _
    (λ _. choose (λ (p : GraphState × Reply). Effect g no_waking p.0) (nat_lt (length g.comps) COMP_LIMIT) _ _
    (λ _. comps z) (λ _. keeps)) (λ _. keeps)
effect_of g (cmd.New r c n) = make_effect g r (new_object c n) (λ y h. no_name_in_nulls n y h)
effect_of g (cmd.Map r c) = make_effect g r (new_map c) (λ y h. nothing_in_none (Some y) h)
effect_of g (cmd.Get r s f) = get_effect g no_waking r s f (register_cell g s) refl
effect_of g (cmd.Set s f t) = set_effect g no_waking f (register_cell g s) (value_to_set g t)
    (value_source g no_waking t)
effect_of g (cmd.Wrap r s c) = wrap_effect g r s c (register_cell g s) refl
effect_of g (cmd.Unwrap r s) = unwrap_effect g r s (register_cell g s) refl
effect_of g (cmd.Copy r s) = takes r (register_cell g s) (λ y e. register s e)
effect_of g (cmd.Drop r) = takes r None (λ y e. absurd (cc e))
effect_of g (cmd.Hold k r) = slots k (register_cell g r) (λ y e. register r e)
effect_of g (cmd.Release k) = slots k None (λ y e. absurd (cc e))
effect_of g (cmd.Expose r k) = takes r (slot_cell g k) (λ y e. woken e)
effect_of g (cmd.Put m k v) = put_effect g no_waking k v (register_cell g m) (register_cell g k) (register_cell g v)
    refl refl
effect_of g (cmd.Del m k) = del_effect g no_waking k (register_cell g m) (register_cell g k) refl
effect_of g (cmd.Find r m k) = find_effect g no_waking r m k (register_cell g m) (register_cell g k) refl refl
