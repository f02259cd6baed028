-- The replies to a command on the graph, and the numbers that they give.
use Rattle.std.proofs.Common.{◌≡◌, ℕ, ◌+◌, ◌⊎◌, inl, inr, length, refl, sym, ◌∙◌, arith, Bool, true, false, Option}
use Rattle.std.proofs.Common.{Some, None}
use Rattle.std.proofs.Common.{slice_get, nat_lt}
use Rattle.gz_names.specs.declared.limits.TheConstants.{ZONE_LIMIT, COMP_LIMIT}
use Rattle.gz_names.specs.declared.names.Name.{Name}
use Rattle.gz_names.specs.declared.names.Name.TheVariants.{Cell, Wrap}
use Rattle.gz_names.specs.declared.numbers.CompNo.{CompNo}
use Rattle.gz_names.specs.declared.commands.GraphCmd.{GraphCmd}
use Rattle.gz_names.specs.declared.commands.GraphCmd.TheVariants as cmd
use Rattle.gz_names.specs.declared.replies.Reply.{Reply}
use Rattle.gz_names.specs.declared.replies.Reply.TheVariants as reply
use Rattle.gz_names.specs.declared.replies.Refusal.{Refusal}
use Rattle.gz_names.specs.declared.replies.Refusal.TheVariants as refusal
use Rattle.colour_defs.specs.declared.graph.Object.{Object}
use Rattle.colour_defs.specs.Graph.{GraphState, object_of, register_cell, slot_cell, has_wrapper, value_of}
use Rattle.colour_defs.specs.Step.{step_of, fits_comp, get_from, get_in, get_value, set_from, set_in, value_to_set}
use Rattle.colour_defs.specs.Step.{wrap_from, target_of, is_in_comp, unwrap_from, put_from, put_unless, del_from}
use Rattle.colour_defs.specs.Step.{del_unless, del_value, find_from, find_unless, entry_refusal, new_object, new_map}
use Rattle.colour_defs.specs.Step.{make_comp, make_object, make_zone, named_or_null, refusal_in, refuse, with_field}
use Rattle.colour_defs.specs.Step.{with_field_in, with_register}
use Rattle.colour_defs.specs.World.{woken_by}
use Rattle.colour_defs.proofs.Lists.{choose, length_push, length_set}
use Rattle.collection_laws.specs.Numbers.{IsGraphReply, GivesNext, given_after}
use Rattle.collection_laws.specs.Replies.{IsReplyTo, Says, accepted, accepted_or_absent}

-- it is a reply to a command on the graph, and says one of these things if it refuses nothing
abbrev Replies : {T : Type 0} → (T → Reply) → Reply → Type 0
Replies saying r = IsGraphReply r × (refusal_in r ≡ None → Says saying r)

-- a reply that gives no number, with a graph that has as many objects
abbrev GivesNone : {T : Type 0} → GraphState → (T → Reply) → GraphState × Reply → Type 0
GivesNone g saying p =
    Replies saying p.1 × GivesNext (length g.objects) p.1
    × (given_after (length g.objects) p.1 ≡ length g.objects) × (length p.0.objects ≡ length g.objects)

refused_none : {T : Type 0} (g : GraphState) (saying : T → Reply) (why : Refusal) → GivesNone g saying (refuse g why)
refused_none g saying why = ((tt, λ e. absurd (cc e)), tt, refl, refl)

accepted_none : (g h : GraphState) → length h.objects ≡ length g.objects → GivesNone g accepted (h, reply.Accepted)
accepted_none g h same = ((tt, λ _. (tt, refl)), tt, refl, same)

found_none : (g h : GraphState) (b : Bool) → length h.objects ≡ length g.objects
    → GivesNone g accepted_or_absent (h, accepted_or_absent b)
found_none g h true same = ((tt, λ _. (true, refl)), tt, refl, same)
found_none g h false same = ((tt, λ _. (false, refl)), tt, refl, same)

name_none : (g h : GraphState) (x : Name) → length h.objects ≡ length g.objects
    → GivesNone g reply.Named (h, reply.Named x)
name_none g h x same = ((tt, λ _. (x, refl)), tt, refl, same)

named_none : (g h : GraphState) (x : Option Name) → length h.objects ≡ length g.objects
    → GivesNone g named_or_null (h, named_or_null x)
named_none g h None same = ((tt, λ _. (None, refl)), tt, refl, same)
named_none g h (Some x) same = ((tt, λ _. (Some x, refl)), tt, refl, same)

zone_none : (g : GraphState) → GivesNone g reply.Zone (make_zone g)
zone_none g =
    choose (GivesNone g reply.Zone) (nat_lt g.zones ZONE_LIMIT) _ _
    (λ _. ((tt, λ _. (g.zones, refl)), tt, refl, refl)) (λ _. refused_none g reply.Zone refusal.Full)

comp_none : (g : GraphState) (z : ℕ) → GivesNone g reply.Comp (make_comp g z)
comp_none g z =
    choose (GivesNone g reply.Comp) (nat_lt z g.zones) _ _
    (λ _. choose (GivesNone g reply.Comp) (nat_lt (length g.comps) COMP_LIMIT) _ _
    (λ _. ((tt, λ _. (record { 0 = length g.comps }, refl)), tt, refl, refl))
    (λ _. refused_none g reply.Comp refusal.Full)) (λ _. refused_none g reply.Comp refusal.NoZone)

get_in_none : (g : GraphState) (r f : ℕ) (o : Option Object) → GivesNone g named_or_null (get_in g r o f)
get_in_none g r f None = refused_none g named_or_null refusal.Kind
get_in_none g r f (Some o) =
    choose (GivesNone g named_or_null) o.is_map _ _ (λ _. refused_none g named_or_null refusal.Kind)
    (λ _. go (slice_get o.fields f))
  where
    go : (x : Option (Option Name)) → GivesNone g named_or_null (get_value g r x)
    go None = refused_none g named_or_null refusal.NoField
    go (Some x) = named_none g (with_register g r x) x refl

get_none : (g : GraphState) (r f : ℕ) (x : Option Name) → GivesNone g named_or_null (get_from g r x f)
get_none g r f None = refused_none g named_or_null refusal.Empty
get_none g r f (Some (Wrap c t)) = refused_none g named_or_null refusal.Kind
get_none g r f (Some (Cell n)) = get_in_none g r f (object_of g n)

set_in_none : (g : GraphState) (n f : ℕ) (v : Option Name) (o : Option Object)
    → GivesNone g accepted (set_in g n o f v)
set_in_none g n f v None = refused_none g accepted refusal.Kind
set_in_none g n f v (Some o) =
    choose (GivesNone g accepted) o.is_map _ _ (λ _. refused_none g accepted refusal.Kind)
    (λ _. choose (GivesNone g accepted) (nat_lt f (length o.fields)) _ _
    (λ _. choose (GivesNone g accepted) (fits_comp g o.comp v) _ _
    (λ _. accepted_none g (with_field g n o f v) (length_set g.objects n (with_field_in (Some o) f v)))
    (λ _. refused_none g accepted refusal.Cross))
    (λ _. refused_none g accepted refusal.NoField))

set_none : (g : GraphState) (f : ℕ) (x : Option Name) (v : Option (Option Name))
    → GivesNone g accepted (set_from g x f v)
set_none g f None v = refused_none g accepted refusal.Empty
set_none g f (Some x) None = refused_none g accepted refusal.Empty
set_none g f (Some (Wrap c t)) (Some v) = refused_none g accepted refusal.Kind
set_none g f (Some (Cell n)) (Some v) = set_in_none g n f v (object_of g n)

wrap_none : (g : GraphState) (r : ℕ) (c : CompNo) (x : Option Name) → GivesNone g reply.Named (wrap_from g r x c)
wrap_none g r c None = refused_none g reply.Named refusal.Empty
wrap_none g r c (Some x) =
    choose (GivesNone g reply.Named) (nat_lt c.0 (length g.comps)) _ _
    (λ _. choose (GivesNone g reply.Named) (is_in_comp g c (Cell (target_of x))) _ _
    (λ _. name_none g g (Cell (target_of x)) refl)
    (λ _. choose (GivesNone g reply.Named) (has_wrapper g c (target_of x)) _ _
    (λ _. name_none g g (Wrap c (target_of x)) refl)
    (λ _. name_none g g (Wrap c (target_of x)) refl))) (λ _. refused_none g reply.Named refusal.NoComp)

unwrap_none : (g : GraphState) (r : ℕ) (x : Option Name) → GivesNone g reply.Named (unwrap_from g r x)
unwrap_none g r None = refused_none g reply.Named refusal.Empty
unwrap_none g r (Some (Cell n)) = refused_none g reply.Named refusal.Kind
unwrap_none g r (Some (Wrap c t)) = name_none g g (Cell t) refl

put_none : (g : GraphState) (m k v : Option Name) → GivesNone g accepted (put_from g m k v)
put_none g None k v = refused_none g accepted refusal.Empty
put_none g (Some m) None v = refused_none g accepted refusal.Empty
put_none g (Some m) (Some k) None = refused_none g accepted refusal.Empty
put_none g (Some m) (Some k) (Some v) = go (entry_refusal g m k v)
  where
    go : (o : Option Refusal) → GivesNone g accepted (put_unless g m k v o)
    go (Some why) = refused_none g accepted why
    go None = accepted_none g g refl

del_value_none : (g : GraphState) (m k : Name) (o : Option Name) → GivesNone g accepted_or_absent (del_value g m k o)
del_value_none g m k None = found_none g g false refl
del_value_none g m k (Some v) = found_none g g true refl

del_none : (g : GraphState) (m k : Option Name) → GivesNone g accepted_or_absent (del_from g m k)
del_none g None k = refused_none g accepted_or_absent refusal.Empty
del_none g (Some m) None = refused_none g accepted_or_absent refusal.Empty
del_none g (Some m) (Some k) = go (entry_refusal g m k k)
  where
    go : (o : Option Refusal) → GivesNone g accepted_or_absent (del_unless g m k o)
    go (Some why) = refused_none g accepted_or_absent why
    go None = del_value_none g m k (value_of g m k)

find_none : (g : GraphState) (r : ℕ) (m k : Option Name) → GivesNone g named_or_null (find_from g r m k)
find_none g r None k = refused_none g named_or_null refusal.Empty
find_none g r (Some m) None = refused_none g named_or_null refusal.Empty
find_none g r (Some m) (Some k) = go (entry_refusal g m k k)
  where
    go : (o : Option Refusal) → GivesNone g named_or_null (find_unless g r m k o)
    go (Some why) = refused_none g named_or_null why
    go None = named_none g (with_register g r (value_of g m k)) (value_of g m k) refl

-- no number was given, or the next one, to a cell that is woken; and what the reply says, unless it refuses
pub record Answered (g : GraphState) (c : GraphCmd) : Type 0 where
  pub reply : IsGraphReply (step_of g c).1
  pub says : refusal_in (step_of g c).1 ≡ None → IsReplyTo c (step_of g c).1
  pub next : GivesNext (length g.objects) (step_of g c).1
  pub made : length (step_of g c).0.objects ≡ given_after (length g.objects) (step_of g c).1
  pub woken : (given_after (length g.objects) (step_of g c).1 ≡ length g.objects)
      ⊎ ((given_after (length g.objects) (step_of g c).1 ≡ length g.objects + 1)
      × (woken_by g c ≡ Some (Cell (length g.objects))))

by_none : {T : Type 0} (g : GraphState) (c : GraphCmd) (saying : T → Reply) → GivesNone g saying (step_of g c)
    → (Says saying (step_of g c).1 → IsReplyTo c (step_of g c).1) → Answered g c
by_none g c saying h by = record {
  reply = h.0.0;
  says = λ done. by (h.0.1 done);
  next = h.1;
  made = h.3 ∙ sym h.2;
  woken = inl h.2;
}

-- an object or a map is made, or refused
abbrev Makes : GraphState → GraphState × Reply → Type 0
Makes g p =
    Replies reply.Made p.1 × GivesNext (length g.objects) p.1
    × (length p.0.objects ≡ given_after (length g.objects) p.1)
    × ((given_after (length g.objects) p.1 ≡ length g.objects)
    ⊎ (given_after (length g.objects) p.1 ≡ length g.objects + 1))

one_more : (g : GraphState) (r : ℕ) (o : Object) → Makes g (make_object g r o)
one_more g r o =
    choose (Makes g) (nat_lt o.comp.0 (length g.comps)) _ _
    (λ _. (
      (tt, λ _. (length g.objects, refl)),
      refl,
      (let long = length_push g.objects (Some o) in omega (arith, long)),
      inr refl,
    ))
    (λ _. ((tt, λ e. absurd (cc e)), tt, refl, inl refl))

by_making : (g : GraphState) (c : GraphCmd) → woken_by g c ≡ Some (Cell (length g.objects)) → Makes g (step_of g c)
    → (Says reply.Made (step_of g c).1 → IsReplyTo c (step_of g c).1) → Answered g c
by_making g c is h by = record {
  reply = h.0.0;
  says = λ done. by (h.0.1 done);
  next = h.1;
  made = h.2;
  woken = elim h.3 [ inl none ↦ inl none | inr one ↦ inr (one, is) ];
}

pub answered : (g : GraphState) (c : GraphCmd) → Answered g c
answered g cmd.Zone = by_none g cmd.Zone reply.Zone (zone_none g) (λ h. h)
answered g (cmd.Comp z) = by_none g (cmd.Comp z) reply.Comp (comp_none g z) (λ h. h)
answered g (cmd.New r c n) = by_making g (cmd.New r c n) refl (one_more g r (new_object c n)) (λ h. h)
answered g (cmd.Map r c) = by_making g (cmd.Map r c) refl (one_more g r (new_map c)) (λ h. h)
answered g (cmd.Get r s f) =
    by_none g (cmd.Get r s f) named_or_null (get_none g r f (register_cell g s)) (λ h. h)
answered g (cmd.Set s f t) =
    by_none g (cmd.Set s f t) accepted (set_none g f (register_cell g s) (value_to_set g t)) (λ h. h)
answered g (cmd.Wrap r s c) =
    by_none g (cmd.Wrap r s c) reply.Named (wrap_none g r c (register_cell g s)) (λ h. h)
answered g (cmd.Unwrap r s) = by_none g (cmd.Unwrap r s) reply.Named (unwrap_none g r (register_cell g s)) (λ h. h)
answered g (cmd.Copy r s) = by_none g (cmd.Copy r s) accepted (accepted_none g g refl) (λ h. h)
answered g (cmd.Drop r) = by_none g (cmd.Drop r) accepted (accepted_none g g refl) (λ h. h)
answered g (cmd.Hold s r) = by_none g (cmd.Hold s r) accepted (accepted_none g g refl) (λ h. h)
answered g (cmd.Release s) = by_none g (cmd.Release s) accepted (accepted_none g g refl) (λ h. h)
answered g (cmd.Expose r s) =
    by_none g (cmd.Expose r s) named_or_null (named_none g (with_register g r (slot_cell g s)) (slot_cell g s) refl)
    (λ h. h)
answered g (cmd.Put m k v) =
    by_none g (cmd.Put m k v) accepted (put_none g (register_cell g m) (register_cell g k) (register_cell g v)) (λ h. h)
answered g (cmd.Del m k) =
    by_none g (cmd.Del m k) accepted_or_absent (del_none g (register_cell g m) (register_cell g k)) (λ h. h)
answered g (cmd.Find r m k) =
    by_none g (cmd.Find r m k) named_or_null (find_none g r (register_cell g m) (register_cell g k)) (λ h. h)
