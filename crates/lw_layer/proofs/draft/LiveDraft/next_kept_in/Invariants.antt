use Rattle.std.proofs.Common.{◌≡◌, ℕ, ◌-◌, ◌<◌, ◌≤◌, false}
use Rattle.lw_layer.specs.View.{keeps}
use Rattle.lw_layer.specs.Drafts.{live_view}
use Rattle.lw_layer.proofs.draft.LiveDraft.next_kept_in.Given as goal

abbrev pub invariant-loop-column : goal.invariant-loop-column
invariant-loop-column l = record {
  reaches : l.x ≤ l.column;
  before : (v : ℕ) → l.x ≤ v → v < l.column → keeps (live_view l.self) v l.y ≡ false;
}

abbrev pub decreases-loop-column : goal.decreases-loop-column
decreases-loop-column l = l.end - l.column
