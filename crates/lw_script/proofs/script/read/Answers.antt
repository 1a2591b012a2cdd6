use Rattle.lw_grammar.specs.Script.{reading_with}
use Rattle.lw_script.proofs.InputAnswers.{found, runnable, refused, only_read, only_refused}
use Rattle.lw_script.proofs.script.read.Goals as goal

pub returns-clause-found : goal.returns-clause-found
returns-clause-found c =
    found (reading_with c.args.hooks c.args.form) c.args.bytes.now c.read_lines.result c.read_lines.ensures

pub returns-clause-runnable : goal.returns-clause-runnable
returns-clause-runnable c =
    runnable (reading_with c.args.hooks c.args.form) c.args.bytes.now c.read_lines.result c.read_lines.ensures

pub returns-clause-refused : goal.returns-clause-refused
returns-clause-refused c =
    refused (reading_with c.args.hooks c.args.form) c.args.bytes.now c.read_lines.result c.read_lines.ensures

pub returns-clause-only_read : goal.returns-clause-only_read
returns-clause-only_read c =
    only_read (reading_with c.args.hooks c.args.form) c.args.bytes.now c.read_lines.result c.read_lines.ensures

pub returns-clause-only_refused : goal.returns-clause-only_refused
returns-clause-only_refused c =
    only_refused (reading_with c.args.hooks c.args.form) c.args.bytes.now c.read_lines.result c.read_lines.ensures
