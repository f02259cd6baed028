-- A command on the graph has one line for its reply.
use Rattle.std.proofs.Common.{◌≡◌, ℕ, [], ◌∷◌, Option, Some, None, length, nat_lt, refl, slice_get}
use Rattle.gz_names.specs.declared.limits.TheConstants.{COMP_LIMIT, ZONE_LIMIT}
use Rattle.gz_names.specs.declared.names.Name.{Name}
use Rattle.gz_names.specs.declared.names.Name.TheVariants.{Cell, Wrap}
use Rattle.gz_names.specs.declared.numbers.CompNo.{CompNo}
use Rattle.gz_names.specs.declared.commands.GraphCmd.{GraphCmd}
use Rattle.gz_names.specs.declared.commands.GraphCmd.TheVariants as cmd
use Rattle.gz_names.specs.declared.replies.Refusal.{Refusal}
use Rattle.gz_names.specs.declared.replies.Reply.{Reply}
use Rattle.gz_names.specs.declared.replies.Reply.TheVariants as reply
use Rattle.colour_defs.specs.declared.graph.Object.{Object}
use Rattle.colour_defs.specs.Graph.{GraphState, has_wrapper, object_of, register_cell, slot_cell, value_of}
use Rattle.colour_defs.specs.Step.{del_from, del_unless, del_value, entry_refusal, find_from, find_unless, fits_comp}
use Rattle.colour_defs.specs.Step.{get_from, get_in, get_value, is_in_comp, make_object, named_or_null, new_map}
use Rattle.colour_defs.specs.Step.{new_object}
use Rattle.colour_defs.specs.Step.{put_from, put_unless, set_from, set_in, step_of, take_wrapper, target_of}
use Rattle.colour_defs.specs.Step.{unwrap_from}
use Rattle.colour_defs.specs.Step.{value_to_set, wrap_from}
use Rattle.colour_defs.proofs.Lists.{choose}
use Rattle.trace_lang.specs.Texts.{reply_text}
use Rattle.judge.specs.Transcripts.{HasSmallNumber, lines_of_reply}

-- a reply that has one line, and names no number of units
pub record IsPlain (r : Reply) : Type 0 where
  pub line : lines_of_reply r ≡ reply_text r ∷ []
  pub small : HasSmallNumber r

refused_plain : (why : Refusal) → IsPlain (reply.Refused why)
refused_plain why = record { line = refl; small = tt }

accepted_plain : IsPlain reply.Accepted
accepted_plain = record { line = refl; small = tt }

pub named_plain : (x : Option Name) → IsPlain (named_or_null x)
named_plain None = record { line = refl; small = tt }
named_plain (Some x) = record { line = refl; small = tt }

abbrev Plain : GraphState × Reply → Type 0
Plain p = IsPlain p.1

made_plain : (g : GraphState) (r : ℕ) (o : Object) → IsPlain (make_object g r o).1
made_plain g r o = choose Plain (nat_lt o.comp.0 (length g.comps)) _ _ (λ _. record { line = refl; small = tt })
    (λ _. record { line = refl; small = tt })

value_plain : (g : GraphState) (r : ℕ) (x : Option (Option Name)) → IsPlain (get_value g r x).1
value_plain g r None = refused_plain _
value_plain g r (Some x) = named_plain x

get_plain : (g : GraphState) (r f : ℕ) (o : Option Object) → IsPlain (get_in g r o f).1
get_plain g r f None = refused_plain _
get_plain g r f (Some o) = choose Plain o.is_map _ _ (λ _. refused_plain _)
    (λ _. value_plain g r (slice_get o.fields f))

got_plain : (g : GraphState) (r f : ℕ) (x : Option Name) → IsPlain (get_from g r x f).1
got_plain g r f None = refused_plain _
got_plain g r f (Some (Wrap c t)) = refused_plain _
got_plain g r f (Some (Cell n)) = get_plain g r f (object_of g n)

set_plain : (g : GraphState) (n f : ℕ) (v : Option Name) (o : Option Object) → IsPlain (set_in g n o f v).1
set_plain g n f v None = refused_plain _
set_plain g n f v (Some o) = choose Plain o.is_map _ _ (λ _. refused_plain _) (λ _.
    choose Plain (nat_lt f (length o.fields)) _ _ (λ _.
    choose Plain (fits_comp g o.comp v) _ _ (λ _. accepted_plain) (λ _. refused_plain _)) (λ _. refused_plain _))

written_plain : (g : GraphState) (f : ℕ) (x : Option Name) (v : Option (Option Name)) → IsPlain (set_from g x f v).1
written_plain g f None v = refused_plain _
written_plain g f (Some x) None = refused_plain _
written_plain g f (Some (Wrap c t)) (Some v) = refused_plain _
written_plain g f (Some (Cell n)) (Some v) = set_plain g n f v (object_of g n)

take_plain : (g : GraphState) (r : ℕ) (c : CompNo) (t : ℕ) → IsPlain (take_wrapper g r c t).1
take_plain g r c t = choose Plain (has_wrapper g c t) _ _ (λ _. record { line = refl; small = tt })
    (λ _. record { line = refl; small = tt })

wrap_plain : (g : GraphState) (r : ℕ) (c : CompNo) (x : Option Name) → IsPlain (wrap_from g r x c).1
wrap_plain g r c None = refused_plain _
wrap_plain g r c (Some x) = choose Plain (nat_lt c.0 (length g.comps)) _ _ (λ _.
    choose Plain (is_in_comp g c (Cell (target_of x))) _ _ (λ _. record { line = refl; small = tt })
    (λ _. take_plain g r c (target_of x))) (λ _. refused_plain _)

unwrap_plain : (g : GraphState) (r : ℕ) (x : Option Name) → IsPlain (unwrap_from g r x).1
unwrap_plain g r None = refused_plain _
unwrap_plain g r (Some (Cell n)) = refused_plain _
unwrap_plain g r (Some (Wrap c t)) = record { line = refl; small = tt }

put_plain : (g : GraphState) (m k v : Name) (o : Option Refusal) → IsPlain (put_unless g m k v o).1
put_plain g m k v None = accepted_plain
put_plain g m k v (Some why) = refused_plain why

puts_plain : (g : GraphState) (m k v : Option Name) → IsPlain (put_from g m k v).1
puts_plain g None k v = refused_plain _
puts_plain g (Some m) None v = refused_plain _
puts_plain g (Some m) (Some k) None = refused_plain _
puts_plain g (Some m) (Some k) (Some v) = put_plain g m k v (entry_refusal g m k v)

del_value_plain : (g : GraphState) (m k : Name) (o : Option Name) → IsPlain (del_value g m k o).1
del_value_plain g m k None = record { line = refl; small = tt }
del_value_plain g m k (Some v) = accepted_plain

del_plain : (g : GraphState) (m k : Name) (o : Option Refusal) → IsPlain (del_unless g m k o).1
del_plain g m k (Some why) = refused_plain why
del_plain g m k None = del_value_plain g m k (value_of g m k)

dels_plain : (g : GraphState) (m k : Option Name) → IsPlain (del_from g m k).1
dels_plain g None k = refused_plain _
dels_plain g (Some m) None = refused_plain _
dels_plain g (Some m) (Some k) = del_plain g m k (entry_refusal g m k k)

find_plain : (g : GraphState) (r : ℕ) (m k : Name) (o : Option Refusal) → IsPlain (find_unless g r m k o).1
find_plain g r m k (Some why) = refused_plain why
find_plain g r m k None = named_plain (value_of g m k)

finds_plain : (g : GraphState) (r : ℕ) (m k : Option Name) → IsPlain (find_from g r m k).1
finds_plain g r None k = refused_plain _
finds_plain g r (Some m) None = refused_plain _
finds_plain g r (Some m) (Some k) = find_plain g r m k (entry_refusal g m k k)

pub plain_step : (g : GraphState) (c : GraphCmd) → IsPlain (step_of g c).1
plain_step g cmd.Zone = choose Plain (nat_lt g.zones ZONE_LIMIT) _ _ (λ _. record { line = refl; small = tt })
    (λ _. refused_plain _)
plain_step g (cmd.Comp z) = choose Plain (nat_lt z g.zones) _ _ (λ _.
    choose Plain (nat_lt (length g.comps) COMP_LIMIT) _ _ (λ _. record { line = refl; small = tt })
    (λ _. refused_plain _)) (λ _. refused_plain _)
plain_step g (cmd.New r c n) = made_plain g r (new_object c n)
plain_step g (cmd.Map r c) = made_plain g r (new_map c)
plain_step g (cmd.Get r s f) = got_plain g r f (register_cell g s)
plain_step g (cmd.Set s f t) = written_plain g f (register_cell g s) (value_to_set g t)
plain_step g (cmd.Wrap r s c) = wrap_plain g r c (register_cell g s)
plain_step g (cmd.Unwrap r s) = unwrap_plain g r (register_cell g s)
plain_step g (cmd.Copy r s) = accepted_plain
plain_step g (cmd.Drop r) = accepted_plain
plain_step g (cmd.Hold s r) = accepted_plain
plain_step g (cmd.Release s) = accepted_plain
plain_step g (cmd.Expose r s) = named_plain (slot_cell g s)
plain_step g (cmd.Put m k v) = puts_plain g (register_cell g m) (register_cell g k) (register_cell g v)
plain_step g (cmd.Del m k) = dels_plain g (register_cell g m) (register_cell g k)
plain_step g (cmd.Find r m k) = finds_plain g r (register_cell g m) (register_cell g k)
