-- What a group of the reader means.
use Rattle.lw_grammar.specs.Told.{OpenGroup as Meaning, Locked as LockedMeaning, Updating as UpdatingMeaning, Held as HeldMeaning}
use Rattle.lw_statements.specs.declared.acts.OpenGroup.{OpenGroup}
use Rattle.lw_statements.specs.declared.acts.OpenGroup.TheVariants.{Locked, Updating, Held}

-- a layer's name by its bytes
abbrev pub group_meaning : OpenGroup → Meaning
group_meaning (Locked l) = LockedMeaning l.now
group_meaning (Updating l) = UpdatingMeaning l.now
group_meaning Held = HeldMeaning
