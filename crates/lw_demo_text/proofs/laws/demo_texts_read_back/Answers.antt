use Rattle.lw_demo_text.proofs.DemoTasks.{demo_texts_read_back}
use Rattle.lw_demo_text.proofs.laws.demo_texts_read_back.Goals as goal

pub returns : goal.returns
returns c = demo_texts_read_back
