use Rattle.std.proofs.Common.{◌≡◌, ◌-◌, ◌<◌, suc, length, arith, rules}
use Rattle.lw_reader.proofs.ListsOfLists.{put_there}
use Rattle.lw_reader.proofs.tasks.put_last.Goals as goal

pub returns-in_ok-push : goal.returns-in_ok-push
returns-in_ok-push g c =
    let lists = c.args.lists.now in
    let some : 0 < lists.len = c.in-Some.ensures.variant.0 (search rules) in
    let long : length lists.items ≡ suc (lists.len - 1) = omega (arith, lists.ok.0, some) in
    put_there _ lists.items (lists.len - 1) c.in-Some.list.now c.push.new.self c.args.item long c.in-Some.ensures.value c.in_ok-push.ensures.items
