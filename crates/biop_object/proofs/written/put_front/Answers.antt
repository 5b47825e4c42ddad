use Rattle.std.proofs.Common.{◌∷◌, [], ◌+◌, length}
use Rattle.oc_bytes.specs.Numbers.{two_bytes, four_bytes}
use Rattle.biop_object.proofs.PutTogether.{ten_parts}
use Rattle.biop_object.proofs.written.put_front.Goals as goal

pub returns : goal.returns
returns c =
    rw (c.in_ok-put_u32-3.ensures.ok, c.in_ok-put_u8-2.ensures.ok, c.in_ok-put_bytes-3.ensures.ok, c.in_ok-put_u16.ensures.ok, c.in_ok-put_bytes-2.ensures.ok, c.in_ok-put_u32-2.ensures.ok, c.in_ok-put_bytes.ensures.ok, c.in_ok-put_u8.ensures.ok, c.in_ok-put_u32.ensures.ok, c.in_ok-put_u64.ensures.ok)
    (ten_parts c.args.out.now (66 ∷ 73 ∷ 79 ∷ 80 ∷ 1 ∷ 0 ∷ 0 ∷ 0 ∷ []) (four_bytes (20 + length c.args.info.now + c.args.body_length)) (4 ∷ []) c.args.key.now (four_bytes 4) c.args.kind.now (two_bytes (length c.args.info.now)) c.args.info.now (0 ∷ []) (four_bytes c.args.body_length))
