use Rattle.std.proofs.Common.{◌≤◌, ltb, leb, sym, rules, arith}
use Rattle.std.proofs.lemmas.List.Sorted.{IsPartitionPoint-from_clause, IsPartitionedBy-leb, IsPartitionedBy-ltb}
use Rattle.wk_index.proofs.OwnRows.{run-is_forward, run-is_own}
use Rattle.wk_index.proofs.load.own_rows.Goals as goal

pub slice_bounds-result-count : goal.slice_bounds-result-count
slice_bounds-result-count g c =
    let number = g.T.Numbered.number in
    let low = IsPartitionPoint-from_clause (λ y. ltb (number y) c.args.page) _ _ c.partition_point-start.ensures.partitioned (IsPartitionedBy-ltb number c.args.rows.now c.args.page c.requires) (λ a r q called. search rules) in
    let up = IsPartitionPoint-from_clause (λ y. leb (number y) c.args.page) _ _ c.partition_point-end.ensures.partitioned (IsPartitionedBy-leb number c.args.rows.now c.args.page c.requires) (λ a r q called. search rules) in
    run-is_forward number c.args.page c.args.rows.now c.partition_point-start.result c.partition_point-end.result low up c.partition_point-start.ensures.bound

pub slice_bounds-result-start : goal.slice_bounds-result-start
slice_bounds-result-start g c =
    let number = g.T.Numbered.number in
    let low = IsPartitionPoint-from_clause (λ y. ltb (number y) c.args.page) _ _ c.partition_point-start.ensures.partitioned (IsPartitionedBy-ltb number c.args.rows.now c.args.page c.requires) (λ a r q called. search rules) in
    let up = IsPartitionPoint-from_clause (λ y. leb (number y) c.args.page) _ _ c.partition_point-end.ensures.partitioned (IsPartitionedBy-leb number c.args.rows.now c.args.page c.requires) (λ a r q called. search rules) in
    let forward : c.partition_point-start.result ≤ c.partition_point-end.result =
    run-is_forward number c.args.page c.args.rows.now c.partition_point-start.result c.partition_point-end.result low up c.partition_point-start.ensures.bound in
    omega (arith, forward)

pub returns : goal.returns
returns g c =
    let number = g.T.Numbered.number in
    let low = IsPartitionPoint-from_clause (λ y. ltb (number y) c.args.page) _ _ c.partition_point-start.ensures.partitioned (IsPartitionedBy-ltb number c.args.rows.now c.args.page c.requires) (λ a r q called. search rules) in
    let up = IsPartitionPoint-from_clause (λ y. leb (number y) c.args.page) _ _ c.partition_point-end.ensures.partitioned (IsPartitionedBy-leb number c.args.rows.now c.args.page c.requires) (λ a r q called. search rules) in
    sym (run-is_own number c.args.page c.args.rows.now c.partition_point-start.result c.partition_point-end.result low up c.partition_point-start.ensures.bound c.partition_point-end.ensures.bound)
