-- What a command on the graph replies once it is done.
use Rattle.std.specs.Prelude.{◌≡◌, Bool, true, false}
use Rattle.gz_names.specs.declared.commands.GraphCmd.{GraphCmd}
use Rattle.gz_names.specs.declared.commands.GraphCmd.TheVariants as cmd
use Rattle.gz_names.specs.declared.replies.Reply.{Reply}
use Rattle.gz_names.specs.declared.replies.Reply.TheVariants as reply
use Rattle.colour_defs.specs.Step.{named_or_null}

-- a reply says one of these things
abbrev pub Says : {T : Type 0} → (T → Reply) → Reply → Type 0
Says {T} saying r = (x : T) × (r ≡ saying x)

-- that the command is done
abbrev pub accepted : Unit {0} → Reply
accepted _ = reply.Accepted

-- whether there was an entry
abbrev pub accepted_or_absent : Bool → Reply
accepted_or_absent true = reply.Accepted
accepted_or_absent false = reply.Absent

-- a reply that this command may have, where it is not refused
abbrev pub IsReplyTo : GraphCmd → Reply → Type 0
IsReplyTo cmd.Zone r = Says reply.Zone r
IsReplyTo (cmd.Comp z) r = Says reply.Comp r
IsReplyTo (cmd.New reg c n) r = Says reply.Made r
IsReplyTo (cmd.Map reg c) r = Says reply.Made r
IsReplyTo (cmd.Get reg s f) r = Says named_or_null r
IsReplyTo (cmd.Set s f t) r = Says accepted r
IsReplyTo (cmd.Wrap reg s c) r = Says reply.Named r
IsReplyTo (cmd.Unwrap reg s) r = Says reply.Named r
IsReplyTo (cmd.Copy reg s) r = Says accepted r
IsReplyTo (cmd.Drop reg) r = Says accepted r
IsReplyTo (cmd.Hold s reg) r = Says accepted r
IsReplyTo (cmd.Release s) r = Says accepted r
IsReplyTo (cmd.Expose reg s) r = Says named_or_null r
IsReplyTo (cmd.Put m k v) r = Says accepted r
IsReplyTo (cmd.Del m k) r = Says accepted_or_absent r
IsReplyTo (cmd.Find reg m k) r = Says named_or_null r
