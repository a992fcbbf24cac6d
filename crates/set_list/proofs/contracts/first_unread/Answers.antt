use Rattle.set_check.specs.Sets.{bytes_of}
use Rattle.set_list.proofs.ListLaws.{unread_told, none_of_target}
use Rattle.set_list.proofs.contracts.first_unread.Goals as goal

pub returns : goal.returns
returns c =
    let target = none_of_target c.args.set.now c.index-set-0.result c.requires.some c.index-set-0.is c.in_default-first_unread_row.ensures in
    unread_told (bytes_of c.args.set.now) c.args.program.now c.args.contracts.now c.requires.program c.requires.own c.in_default.ensures target c.first_heir.result c.first_heir.ensures
