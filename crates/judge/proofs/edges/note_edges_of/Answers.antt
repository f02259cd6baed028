use Rattle.std.proofs.Common.{ℕ, inl, inr}
use Rattle.gz_names.specs.declared.names.Name.{Name}
use Rattle.judge.specs.Edges.{IsKeyOf, Leads, Notes, Sources, sources_of}
use Rattle.judge.specs.declared.edges.ZoneEdges.{ZoneEdges}
use Rattle.judge.proofs.ZoneEdges.{NotesOne, leads_at, leads_one, notes_along, notes_none}
use Rattle.judge.proofs.edges.note_edges_of.Goals as goal

notes_both : (s : Sources) (x : Name) (from to : ℕ) (old mid new : ZoneEdges) → Leads s x from to
    → IsKeyOf s.entries s.cells x → NotesOne old from to mid → NotesOne mid to from new → Notes s x old new
notes_both s x from to old mid new leads key one two a b = (
  λ h. elim ((two a b).0 h) [
    | inl m ↦ elim ((one a b).0 m) [
      | inl o ↦ inl o
      | inr e ↦ inr (inl (leads_at s x from to a b e.0 e.1 leads))
    ]
    | inr e ↦ inr (inr (key, leads_at s x from to b a e.1 e.0 leads))
  ],
  λ h. elim h [
    | inl o ↦ (two a b).1 (inl ((one a b).1 (inl o)))
    | inr m ↦ elim m [
      | inl l ↦ (two a b).1 (inl ((one a b).1 (inr (leads_one s x from to a b leads l))))
      | inr k ↦ let same = leads_one s x from to b a leads k.1 in (two a b).1 (inr (same.1, same.0))
    ]
  ],
)

pub returns-in_default : goal.returns-in_default
returns-in_default c =
    notes_none (sources_of c.args.graph.now c.args.entries.now c.args.places.now c.args.collection.now) c.args.name
    c.args.edges.now (c.in_default.ensures.none c.args.entries.now c.args.places.now)

pub returns-then-is_key : goal.returns-then-is_key
returns-then-is_key c =
    notes_both (sources_of c.args.graph.now c.args.entries.now c.args.places.now c.args.collection.now) c.args.name _ _
    c.args.edges.now c.note.new.self c.note-then-is_key.new.self
    (c.in-Some.ensures.some c.args.entries.now c.args.places.now) (c.is_key.ensures.0 c.if-is_key.true) c.note.ensures
    c.note-then-is_key.ensures

pub returns-else-is_key : goal.returns-else-is_key
returns-else-is_key c =
    notes_along (sources_of c.args.graph.now c.args.entries.now c.args.places.now c.args.collection.now) c.args.name _ _
    c.args.edges.now c.note.new.self (c.in-Some.ensures.some c.args.entries.now c.args.places.now)
    (λ is. let t = c.is_key.ensures.1 is in cc (t, c.if-is_key.false)) c.note.ensures
