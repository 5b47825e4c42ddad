use Rattle.std.proofs.Common.{◌≡◌, ◌<◌, ◌++◌, ◌∷◌, [], length, refl, inr}
use Rattle.std.proofs.lemmas.List.{map_push}
use Rattle.oc_bytes.specs.Cursor.{from_start}
use Rattle.biop_object.specs.Inner.Index.{view_indexed, view_index}
use Rattle.biop_object.specs.ObjectReading.{index_of}
use Rattle.biop_object.proofs.Indexing.{object_shrinks, object_read, not_empty, has_begun}
use Rattle.biop_object.proofs.reading.read_index.Goals as goal

pub loop-fields-smaller : goal.loop-fields-smaller
loop-fields-smaller c = object_shrinks c.loop-fields.fields (view_indexed c.in-Ok.object, c.object_of.new.fields) c.in-Ok.ensures.reads

pub loop-fields-preserved : goal.loop-fields-preserved
loop-fields-preserved c =
    let o = c.in-Ok.object in
    let lt : 0 < length c.loop-fields.fields.rest = not_empty c.loop-fields.fields.rest c.rest.result.now c.is_empty.result c.rest.ensures c.is_empty.ensures c.loop-fields-test.true in
    let e : view_index c.in_ok-objects-in-Ok.objects ≡ view_index c.loop-fields.objects ++ view_indexed o ∷ [] = rw c.in_ok-objects-in-Ok.ensures (map_push view_indexed c.loop-fields.objects o) in
    (rw e (object_read (view_index c.loop-fields.objects) c.loop-fields.fields c.object_of.new.fields (view_indexed o) (index_of c.args.bytes.now) lt c.in-Ok.ensures.reads c.loop-fields.invariant.0), inr (has_begun (from_start c.args.bytes.now) c.loop-fields.fields c.loop-fields.invariant.1 (c.in-Ok.ensures.framed refl)))

pub returns-in_err-objects-in-Ok-clause-memory : goal.returns-in_err-objects-in-Ok-clause-memory
returns-in_err-objects-in-Ok-clause-memory c = λ h. has_begun (from_start c.args.bytes.now) c.loop-fields.fields c.loop-fields.invariant.1 (c.in-Ok.ensures.framed refl)
