-- What a section of the reader means.
use Rattle.lw_grammar.specs.Told.{Section as Meaning, ScreenIsDue, AssetsAreDue, CallsAreDue, TasksAreDue, NumbersAreDue}
use Rattle.lw_grammar.specs.Told.{NothingIsDue}
use Rattle.lw_statements.specs.declared.section.Section.{Section}
use Rattle.lw_statements.specs.declared.section.Section.TheVariants.{Screen, Assets, Calls, Tasks, Numbers, Nothing}

-- the section, as the grammar has it
abbrev pub section_meaning : Section → Meaning
section_meaning Screen = ScreenIsDue
section_meaning Assets = AssetsAreDue
section_meaning Calls = CallsAreDue
section_meaning Tasks = TasksAreDue
section_meaning Numbers = NumbersAreDue
section_meaning Nothing = NothingIsDue
