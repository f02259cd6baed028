-- A world is valid where its registers and pinned roots hold other cells of those that they held.
use Rattle.std.proofs.Common.{◌≡◌, ℕ, List, Option, Some, None, slice_index_or}
use Rattle.gz_names.specs.declared.names.Name.{Name}
use Rattle.colour_defs.specs.Graph.{register_cell}
use Rattle.colour_defs.specs.Laws.{IsValid}
use Rattle.colour_defs.specs.World.{World}
use Rattle.slice_driver.specs.Pins.{with_registers}

pub registers_valid : (w : World) (rs : List (Option Name)) → IsValid w
    → ((r : ℕ) (x : Name) → slice_index_or rs r None ≡ Some x → (s : ℕ) × (register_cell w.graph s ≡ Some x))
    → IsValid (with_registers w rs)
registers_valid w rs ok from = record {
  graph = record {
    fields = ok.graph.fields;
    keys = ok.graph.keys;
    values = ok.graph.values;
    no_wrappers = ok.graph.no_wrappers;
    delegates = ok.graph.delegates;
  };
  presence = record {
    registers = λ r x e. (let s = from r x e in ok.presence.registers s.0 x s.1);
    slots = ok.presence.slots;
    edges = ok.presence.edges;
    entries = ok.presence.entries;
    keys = ok.presence.keys;
    weak = ok.presence.weak;
    watched = ok.presence.watched;
  };
  made = ok.made;
  settled = λ s. let t = ok.settled (record { none_marking = s.none_marking; none_preparing = s.none_preparing }) in
      record {
        present = t.present;
        closed = record {
          registers = λ r x e. (let q = from r x e in t.closed.registers q.0 x q.1);
          edges = t.closed.edges;
          entries = t.closed.entries;
          delegates = t.closed.delegates;
        };
      };
  preparing = λ p e. let t = ok.preparing p e in record {
    alone = t.alone;
    some = t.some;
    left_out = t.left_out;
    closed = record {
      registers = λ r x at. (let q = from r x at in t.closed.registers q.0 x q.1);
      edges = t.closed.edges;
      entries = t.closed.entries;
      delegates = t.closed.delegates;
    };
  };
  running = λ k e. let r = ok.running k e in record { starts = r.starts; others = r.others; outside = r.outside };
  marking = λ k e some. let m = ok.marking k e some in
      record {
        starts = m.starts;
        registers = λ r x at. (let q = from r x at in m.registers q.0 x q.1);
        slots = m.slots;
        edges = m.edges;
        entries = m.entries;
        keys = m.keys;
        kept = m.kept;
      };
  groups = λ k gs e has. let g = ok.groups k gs e has in
      record {
        in_some = g.in_some;
        marked = g.marked;
        full = g.full;
        apart = g.apart;
        backward = g.backward;
        forward = g.forward;
      };
  ungrouped = λ k e has. ok.ungrouped k e has;
}
