use Rattle.std.proofs.Common.{◌-◌, ◌∙◌, length, ap}
use borrow.Rule.Slice.PartMut.{put_mid}
use Rattle.wk_table_rows.proofs.PageRowLaws.{rotated}
use Rattle.wk_table_rows.proofs.own_rows.rotate.Goals as goal

pub returns : goal.returns
returns g c =
    ap (put_mid c.args.place (length c.args.rows.now - c.args.place) c.args.rows.now) c.rotate_right.ensures.after
    ∙ rotated c.args.rows.now c.args.place c.args.end c.requires.before c.requires.within
