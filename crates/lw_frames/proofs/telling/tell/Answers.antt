use Rattle.lw_frames.proofs.telling.tell.Goals as goal

pub put_all-requires-clause-window : goal.put_all-requires-clause-window
put_all-requires-clause-window c = c.in-Some.ensures.0

pub put_all-requires-clause-room : goal.put_all-requires-clause-room
put_all-requires-clause-room c = c.requires.room c.in-Some.ensures.0
