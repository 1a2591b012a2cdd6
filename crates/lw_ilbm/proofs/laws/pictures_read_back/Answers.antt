use Rattle.lw_ilbm.proofs.FilesBack.{file_back}
use Rattle.lw_ilbm.proofs.laws.pictures_read_back.Goals as goal

pub returns : goal.returns
returns c b ok = file_back b ok
