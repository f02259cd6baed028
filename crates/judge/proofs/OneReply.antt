-- A command on the graph, and one on weak names, has one line as its reply.
use Rattle.std.proofs.Common.{◌≡◌, ℕ, [], ◌∷◌, length, refl, Option, Some, None, slice_get, nat_lt}
use Rattle.gz_names.specs.declared.limits.TheConstants.{ZONE_LIMIT, COMP_LIMIT}
use Rattle.gz_names.specs.declared.names.Name.{Name}
use Rattle.gz_names.specs.declared.names.Name.TheVariants.{Cell, Wrap}
use Rattle.gz_names.specs.declared.numbers.CompNo.{CompNo}
use Rattle.gz_names.specs.declared.commands.GraphCmd.{GraphCmd}
use Rattle.gz_names.specs.declared.commands.GraphCmd.TheVariants as cmd
use Rattle.gz_names.specs.declared.replies.Reply.{Reply}
use Rattle.gz_names.specs.declared.replies.Reply.TheVariants as reply
use Rattle.gz_names.specs.declared.replies.Refusal.{Refusal}
use Rattle.colour_defs.specs.declared.graph.Object.{Object}
use Rattle.colour_defs.specs.Graph.{GraphState, object_of, register_cell, slot_cell, has_wrapper, value_of}
use Rattle.colour_defs.specs.Step.{step_of, fits_comp, is_in_comp, get_from, get_in, get_value, set_from}
use Rattle.colour_defs.specs.Step.{set_in, value_to_set, wrap_from, unwrap_from, target_of, put_from, put_unless}
use Rattle.colour_defs.specs.Step.{del_from, del_unless, del_value, find_from, find_unless, entry_refusal, new_object}
use Rattle.colour_defs.specs.Step.{new_map, make_object, named_or_null}
use Rattle.colour_defs.proofs.Lists.{choose}
use Rattle.trace_lang.specs.Texts.{reply_text}
use Rattle.judge.specs.Transcripts.{lines_of_reply}
use Rattle.judge.proofs.PlainTexts.{IsNoDump}

-- a reply that is no dump
pub one_line_of : (r : Reply) → IsNoDump r → lines_of_reply r ≡ reply_text r ∷ []
one_line_of (reply.Zone z) none = refl
one_line_of (reply.Comp c) none = refl
one_line_of (reply.Made n) none = refl
one_line_of (reply.Named x) none = refl
one_line_of reply.Null none = refl
one_line_of reply.Accepted none = refl
one_line_of reply.Absent none = refl
one_line_of reply.GcBegun none = refl
one_line_of (reply.Sliced k) none = refl
one_line_of reply.Collected none = refl
one_line_of reply.ResetDone none = refl
one_line_of (reply.Gray names) none = refl
one_line_of (reply.Dump lines) none = absurd (none lines refl)
one_line_of (reply.Compacted moved given) none = refl
one_line_of (reply.Refused why) none = refl

abbrev IsOne : GraphState × Reply → Type 0
IsOne p = IsNoDump p.1

pub named_one : (x : Option Name) → IsNoDump (named_or_null x)
named_one None = λ ls e. cc e
named_one (Some x) = λ ls e. cc e

get_value_one : (g : GraphState) (r : ℕ) (x : Option (Option Name)) → IsOne (get_value g r x)
get_value_one g r None = λ ls e. cc e
get_value_one g r (Some x) = named_one x

get_in_one : (g : GraphState) (r f : ℕ) (o : Option Object) → IsOne (get_in g r o f)
get_in_one g r f None = λ ls e. cc e
get_in_one g r f (Some o) = choose IsOne o.is_map _ _ (λ _ ls e. cc e) (λ _. get_value_one g r (slice_get o.fields f))

get_one : (g : GraphState) (r f : ℕ) (x : Option Name) → IsOne (get_from g r x f)
get_one g r f None = λ ls e. cc e
get_one g r f (Some (Wrap c t)) = λ ls e. cc e
get_one g r f (Some (Cell n)) = get_in_one g r f (object_of g n)

set_in_one : (g : GraphState) (n f : ℕ) (v : Option Name) (o : Option Object) → IsOne (set_in g n o f v)
set_in_one g n f v None = λ ls e. cc e
set_in_one g n f v (Some o) =
    choose IsOne o.is_map _ _ (λ _ ls e. cc e)
    (λ _. choose IsOne (nat_lt f (length o.fields)) _ _
    (λ _. choose IsOne (fits_comp g o.comp v) _ _ (λ _ ls e. cc e) (λ _ ls e. cc e)) (λ _ ls e. cc e))

set_one : (g : GraphState) (f : ℕ) (x : Option Name) (v : Option (Option Name)) → IsOne (set_from g x f v)
set_one g f None v = λ ls e. cc e
set_one g f (Some x) None = λ ls e. cc e
set_one g f (Some (Wrap c t)) (Some v) = λ ls e. cc e
set_one g f (Some (Cell n)) (Some v) = set_in_one g n f v (object_of g n)

wrap_one : (g : GraphState) (r : ℕ) (c : CompNo) (x : Option Name) → IsOne (wrap_from g r x c)
wrap_one g r c None = λ ls e. cc e
wrap_one g r c (Some x) =
    choose IsOne (nat_lt c.0 (length g.comps)) _ _
    (λ _. choose IsOne (is_in_comp g c (Cell (target_of x))) _ _ (λ _ ls e. cc e)
    (λ _. choose IsOne (has_wrapper g c (target_of x)) _ _ (λ _ ls e. cc e) (λ _ ls e. cc e))) (λ _ ls e. cc e)

unwrap_one : (g : GraphState) (r : ℕ) (x : Option Name) → IsOne (unwrap_from g r x)
unwrap_one g r None = λ ls e. cc e
unwrap_one g r (Some (Cell n)) = λ ls e. cc e
unwrap_one g r (Some (Wrap c t)) = λ ls e. cc e

put_unless_one : (g : GraphState) (m k v : Name) (o : Option Refusal) → IsOne (put_unless g m k v o)
put_unless_one g m k v (Some w) = λ ls e. cc e
put_unless_one g m k v None = λ ls e. cc e

put_one : (g : GraphState) (m k v : Option Name) → IsOne (put_from g m k v)
put_one g None k v = λ ls e. cc e
put_one g (Some m) None v = λ ls e. cc e
put_one g (Some m) (Some k) None = λ ls e. cc e
put_one g (Some m) (Some k) (Some v) = put_unless_one g m k v (entry_refusal g m k v)

del_value_one : (g : GraphState) (m k : Name) (o : Option Name) → IsOne (del_value g m k o)
del_value_one g m k None = λ ls e. cc e
del_value_one g m k (Some v) = λ ls e. cc e

del_unless_one : (g : GraphState) (m k : Name) (o : Option Refusal) → IsOne (del_unless g m k o)
del_unless_one g m k (Some w) = λ ls e. cc e
del_unless_one g m k None = del_value_one g m k (value_of g m k)

del_one : (g : GraphState) (m k : Option Name) → IsOne (del_from g m k)
del_one g None k = λ ls e. cc e
del_one g (Some m) None = λ ls e. cc e
del_one g (Some m) (Some k) = del_unless_one g m k (entry_refusal g m k k)

find_unless_one : (g : GraphState) (r : ℕ) (m k : Name) (o : Option Refusal) → IsOne (find_unless g r m k o)
find_unless_one g r m k (Some w) = λ ls e. cc e
find_unless_one g r m k None = named_one (value_of g m k)

find_one : (g : GraphState) (r : ℕ) (m k : Option Name) → IsOne (find_from g r m k)
find_one g r None k = λ ls e. cc e
find_one g r (Some m) None = λ ls e. cc e
find_one g r (Some m) (Some k) = find_unless_one g r m k (entry_refusal g m k k)

make_one : (g : GraphState) (r : ℕ) (o : Object) → IsOne (make_object g r o)
make_one g r o = choose IsOne (nat_lt o.comp.0 (length g.comps)) _ _ (λ _ ls e. cc e) (λ _ ls e. cc e)

pub step_one : (g : GraphState) (c : GraphCmd) → IsNoDump (step_of g c).1
step_one g cmd.Zone = choose IsOne (nat_lt g.zones ZONE_LIMIT) _ _ (λ _ ls e. cc e) (λ _ ls e. cc e)
step_one g (cmd.Comp z) =
    choose IsOne (nat_lt z g.zones) _ _
    (λ _. choose IsOne (nat_lt (length g.comps) COMP_LIMIT) _ _ (λ _ ls e. cc e) (λ _ ls e. cc e)) (λ _ ls e. cc e)
step_one g (cmd.New r c n) = make_one g r (new_object c n)
step_one g (cmd.Map r c) = make_one g r (new_map c)
step_one g (cmd.Get r s f) = get_one g r f (register_cell g s)
step_one g (cmd.Set s f t) = set_one g f (register_cell g s) (value_to_set g t)
step_one g (cmd.Wrap r s c) = wrap_one g r c (register_cell g s)
step_one g (cmd.Unwrap r s) = unwrap_one g r (register_cell g s)
step_one g (cmd.Copy r s) = λ ls e. cc e
step_one g (cmd.Drop r) = λ ls e. cc e
step_one g (cmd.Hold k r) = λ ls e. cc e
step_one g (cmd.Release k) = λ ls e. cc e
step_one g (cmd.Expose r k) = named_one (slot_cell g k)
step_one g (cmd.Put m k v) = put_one g (register_cell g m) (register_cell g k) (register_cell g v)
step_one g (cmd.Del m k) = del_one g (register_cell g m) (register_cell g k)
step_one g (cmd.Find r m k) = find_one g r (register_cell g m) (register_cell g k)
