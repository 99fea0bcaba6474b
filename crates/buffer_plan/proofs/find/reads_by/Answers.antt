use Rattle.std.proofs.Common.{◌≡◌, drop, ltb, leb, rules, ◌∙◌}
use Rattle.std.proofs.lemmas.List.Sorted.{IsPartitionPoint-from_clause, IsPartitionedBy-leb, IsPartitionedBy-ltb, IsNonDecreasingBy-drop}
use Rattle.std.specs.List.Sorted.{IsNonDecreasingBy}
use Rattle.buffer_plan.proofs.Finding.{readers_rise, own_reads}
use Rattle.buffer_plan.proofs.find.reads_by.Goals as goal

pub returns : goal.returns
returns c =
    let reads = c.args.reads.now in
    let f = c.args.f in
    let start = c.partition_point-start.result in
    let rest = c.split_at.result.1.now in
    let rise = readers_rise reads c.requires in
    let rest_is : rest ≡ drop start reads = c.split_at.ensures.back in
    let rest_rise : IsNonDecreasingBy (λ r. r.f) rest = rw rest_is (IsNonDecreasingBy-drop (λ r. r.f) start reads rise) in
    let first = IsPartitionPoint-from_clause (λ r. ltb r.f f) _ _ c.partition_point-start.ensures.partitioned (IsPartitionedBy-ltb (λ r. r.f) reads f rise) (λ a r q k. search rules) in
    let second = IsPartitionPoint-from_clause (λ r. leb r.f f) _ _ c.partition_point-count.ensures.partitioned (IsPartitionedBy-leb (λ r. r.f) rest f rest_rise) (λ a r q k. search rules) in
    c.split_at-2.ensures.front ∙ own_reads reads rest f start c.partition_point-count.result rest_is c.partition_point-start.ensures.bound c.partition_point-count.ensures.bound first second
