use Rattle.lw_reveal.proofs.PairingLaws.{one_paired}
use Rattle.lw_reveal.proofs.pairing.Pairing.pair.Goals as goal

pub returns-then-is_pair-clause-sound : goal.returns-then-is_pair-clause-sound
returns-then-is_pair-clause-sound c = one_paired c.args.self.now c.args.number c.args.place c.requires.sound c.requires.former (c.is_free.ensures c.if-is_free.true) (c.is_pair.ensures c.if-is_pair.true)
