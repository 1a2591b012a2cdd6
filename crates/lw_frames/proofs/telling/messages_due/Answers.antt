use Rattle.std.proofs.Common.{◌≡◌, Some, refl, ap}
use Rattle.lw_machine.specs.Layer.{Window, is_window}
use Rattle.lw_machine.specs.Reveal.{Across}
use Rattle.lw_windows.specs.Messages.{Tells}
use Rattle.lw_ports.specs.Sets.{classes_of}
use Rattle.lw_frames.specs.Telling.{IsDone}
use Rattle.lw_frames.proofs.TellingLaws.{due_of}
use Rattle.lw_frames.proofs.telling.messages_due.Goals as goal

pub returns : goal.returns
returns c =
    let l = c.args.layer.now.layer in
    let d = c.in_ok-window.window.now in
    let w : Window = record {
      owner = d.owner;
      framed = d.framed;
      title = d.title;
      nocare = d.nocare;
      classes = classes_of d.set;
      port = d.port.messages;
      asked = d.asked;
    } in
    let is : l.window ≡ Some w = c.in_ok-window.ensures in
    let asks = c.classes_asked.ensures in
    let told : (q : Across) → IsDone q c.args.change.now → Tells q l w c.classes_asked.result d.nocare d.asked _ =
    λ q done. record {
      newsize = asks.newsize;
      change = asks.change;
      inactive = asks.inactive;
      active = asks.active;
      refresh = asks.refresh;
      cares = refl;
      was_asked = refl;
      sized = done.sized;
      changed = done.changed;
      deactivated = done.deactivated;
      activated = done.activated;
      damaged = c.is_damaged.ensures;
    } in
    (ap is_window is, λ q done. due_of q l w c.due.result is (c.due.ensures.put q l w (told q done)) (c.due.ensures.refresh q l w (told q done)))
