-- Schedules of tests/vectors and the text that the definitions print for each, computed by the checker. Written by tests/vectors/definitions.
use mathlib.Core.Path.{◌≡◌, refl, sym, ◌∙◌}
use mathlib.Core.List.{List, [], ◌∷◌}
use Prim.Native.String.{String}
use lib.Count.{ones_in, count_trailing_zeros}
use Rattle.container.specs.Choice.{ite}
use Rattle.container.specs.Container.{has, insert, remove, union, cut, below, from, size, least, drop_least, upper_half, lower_half, split_key}
use Rattle.container.specs.Depths.{put, take_out, merge, within, lower, upper}
use Rattle.definitions.specs.Nodes.{check, replaceable}
use Rattle.definitions.specs.Frames.{between, reaches, adding, back}
use Rattle.definitions.specs.Steps.{reached, onward, followed, blocked, lacks, cleared, lost, probe, replaced, beside, reached_first, reached_next, step}
use Rattle.definitions.specs.Records.{taken, stepped, started, asked, record_step}
use Rattle.definitions.specs.Schedule.{count_of, record_at, file_refusal}
use Rattle.definitions.specs.Run.{bytes_of, run_refusal}
use Rattle.definitions.specs.Listing.{decimal, stations_to, stations_text, route_line, base_line, set_line, list_refusal}
use Rattle.definitions.specs.Printed.{action_word, first_line, depth_text, row_line, last_line, printed}
use Rattle.definitions.proofs.Quick.{quick_printed, quick_printed_printed}
use Rattle.vectors.proofs.Written.{file_of, text_of}

-- ---- 0079

abbrev file0079 : List String
file0079 =
    "0200020203270f0203270f"
    ∷ []

abbrev text0079 : List String
text0079 =
    "records 1 of 2 refusal 11;0 normal -;set -;stored 0 used 1;"
    ∷ []

computed0079 : quick_printed (file_of file0079) ≡ text_of text0079
unfolding bytes_of record_at between reaches adding back reached_first reached_next asked put take_out merge within lower upper depth_text row_line
    decimal stations_to stations_text route_line base_line set_line list_refusal check replaceable action_word first_line last_line taken stepped
    started record_step run_refusal count_of file_refusal reached onward followed blocked lacks cleared lost probe replaced beside step ite has insert
    remove union cut below from size least drop_least upper_half lower_half split_key ones_in count_trailing_zeros
computed0079 = refl

pub printed0079 : printed (file_of file0079) ≡ text_of text0079
printed0079 = sym (quick_printed_printed (file_of file0079)) ∙ computed0079

-- ---- 0080

abbrev file0080 : List String
file0080 =
    "0200010209"
    ∷ []

abbrev text0080 : List String
text0080 =
    "records 0 of 0 refusal 4;"
    ∷ []

computed0080 : quick_printed (file_of file0080) ≡ text_of text0080
unfolding bytes_of record_at between reaches adding back reached_first reached_next asked put take_out merge within lower upper depth_text row_line
    decimal stations_to stations_text route_line base_line set_line list_refusal check replaceable action_word first_line last_line taken stepped
    started record_step run_refusal count_of file_refusal reached onward followed blocked lacks cleared lost probe replaced beside step ite has insert
    remove union cut below from size least drop_least upper_half lower_half split_key ones_in count_trailing_zeros
computed0080 = refl

pub printed0080 : printed (file_of file0080) ≡ text_of text0080
printed0080 = sym (quick_printed_printed (file_of file0080)) ∙ computed0080

-- ---- 0081

abbrev file0081 : List String
file0081 =
    "040000"
    ∷ []

abbrev text0081 : List String
text0081 =
    "records 0 of 0 refusal 2;"
    ∷ []

computed0081 : quick_printed (file_of file0081) ≡ text_of text0081
unfolding bytes_of record_at between reaches adding back reached_first reached_next asked put take_out merge within lower upper depth_text row_line
    decimal stations_to stations_text route_line base_line set_line list_refusal check replaceable action_word first_line last_line taken stepped
    started record_step run_refusal count_of file_refusal reached onward followed blocked lacks cleared lost probe replaced beside step ite has insert
    remove union cut below from size least drop_least upper_half lower_half split_key ones_in count_trailing_zeros
computed0081 = refl

pub printed0081 : printed (file_of file0081) ≡ text_of text0081
printed0081 = sym (quick_printed_printed (file_of file0081)) ∙ computed0081

-- ---- 0082

abbrev file0082 : List String
file0082 =
    "020078140300002128000034090000032800003000000000000000300000002000000010000000000000002103000000000000342800000428000030"
    ∷ "0000001000000020000000142800002528000000000000100000002000000000000000200000003000000010000000220320563214270f2000000003"
    ∷ "030000142800002000000030000000000000003000000000000000200000003000000010000000100000001509000010000000300000002514000030"
    ∷ "000000200000000000000030000000100000001209039730000000352800002000000000000000230300001000000010000000100000000000000020"
    ∷ "000000000000000000000005280000000000002000000012030bd0100000001000000020000000100000002000000020000000300000002000000030"
    ∷ "000000311400003000000020000000351400000000000025090000300000000209000030000000340900003000000014030000300000002000000030"
    ∷ "000000000000002000000010000000100000000000000021030000200000002000000010000000340900000000000000000000152800001000000000"
    ∷ "000000300000001000000021280000100000003000000005280000200000003000000000000000200000003503000010000000100000002509000020"
    ∷ "000000"
    ∷ []

abbrev text0082 : List String
text0082 =
    "records 120 of 120 refusal 0;t3 split 9 no;t2 lookup 40 no;t0 remove 40 no;t1 split 3 no;t2 lookup 3 no;t0 split 40 no;t"
    ∷ "2 join 40 no;t3 split 40 no;t1 split 40 no;t2 insert 3 yes;t1 split 40 no;t1 join 9 no;t3 insert 20 yes;t2 join 20 no;t1"
    ∷ " insert 9 yes;t0 remove 3 yes;t1 insert 3 yes;t3 join 40 no;t3 lookup 20 yes 9999;t2 remove 3 yes;t0 join 40 no;t3 join "
    ∷ "20 no;t3 split 9 yes;t2 join 9 no;t2 lookup 3 no;t1 split 3 no;t0 insert 9 no;t3 split 9 no;t2 lookup 40 no;0 route 20;1"
    ∷ " normal 9=0;1 normal 20=9999;set 9=0 20=9999;stored 2 used 12;"
    ∷ []

computed0082 : quick_printed (file_of file0082) ≡ text_of text0082
unfolding bytes_of record_at between reaches adding back reached_first reached_next asked put take_out merge within lower upper depth_text row_line
    decimal stations_to stations_text route_line base_line set_line list_refusal check replaceable action_word first_line last_line taken stepped
    started record_step run_refusal count_of file_refusal reached onward followed blocked lacks cleared lost probe replaced beside step ite has insert
    remove union cut below from size least drop_least upper_half lower_half split_key ones_in count_trailing_zeros
computed0082 = refl

pub printed0082 : printed (file_of file0082) ≡ text_of text0082
printed0082 = sym (quick_printed_printed (file_of file0082)) ∙ computed0082

-- ---- 0083

abbrev file0083 : List String
file0083 =
    "0200c801030000153e0000223d000010000000343e000020000000300000002000000000000000023d18521000000012020186100000002000000010"
    ∷ "0000003000000035030000223e0a50300000001000000030000000200000003403000030000000300000002000000034020000200000001000000025"
    ∷ "3c0000200000002000000030000000253c000020000000000000002000000000000000100000000000000004010000243e0000000000001000000020"
    ∷ "000000100000001000000000000000300000000000000002010000000000000000000000000000000000000000000020000000200000001000000010"
    ∷ "000000100000000201270f00000000253e0000000000002000000020000000300000000000000020000000343d000000000000200000003000000010"
    ∷ "00000030000000100000000000000020000000000000000000000030000000143c000030000000200000001000000020000000200000002000000030"
    ∷ "000000000000001000000000000000200000000000000010000000100000001000000000000000343d00000000000012011c75100000002000000020"
    ∷ "000000300000002000000000000000100000000000000030000000300000001000000000000000000000001000000000000000000000000000000010"
    ∷ "00000010000000000000001000000000000000343d000030000000100000001000000030000000300000000401000030000000100000000000000030"
    ∷ "0000002000000000000000000000002000000020000000220300001000000000000000313e0000300000003000000010000000010100002000000020"
    ∷ "0000000000000010000000323e17e5300000001000000020000000300000000000000020000000000000000103000030000000100000000000000000"
    ∷ "0000003000000000000000300000002000000020000000300000001000000020000000243c0000353e00002000000030000000123e109a043d000000"
    ∷ "000000000000002000000010000000100000003000000000000000000000000000000010000000200000003000000010000000200000003000000010"
    ∷ "0000002000000000000000100000003000000000000000"
    ∷ []

abbrev text0083 : List String
text0083 =
    "records 200 of 200 refusal 0;t0 lookup 3 no;t1 join 62 no;t2 insert 61 yes;t3 split 62 no;t3 join 3 no;t3 split 3 no;t2 "
    ∷ "insert 62 yes;t2 join 60 no;t2 join 60 no;t0 insert 61 no;t0 split 1 yes;t0 insert 1 yes;t2 split 62 no;t3 split 2 no;t1"
    ∷ " insert 2 yes;t3 split 61 no;t1 split 60 no;t3 split 61 no;t0 insert 1 no;t3 split 61 yes;t2 join 62 no;t0 split 1 no;t3"
    ∷ " lookup 62 yes 2640;t0 lookup 1 yes 9999;t0 lookup 3 no;t3 insert 62 no;t1 insert 1 no;t2 insert 3 yes;t1 insert 62 no;t"
    ∷ "3 join 62 no;t0 split 61 yes;0 route 62;1 route 2;2 normal 1=7285;2 route 3;3 normal 2=390;3 normal 3=0 61=6226;1 normal"
    ∷ " 62=4250;set 1=7285 2=390 3=0 61=6226 62=4250;stored 5 used 22;"
    ∷ []

computed0083 : quick_printed (file_of file0083) ≡ text_of text0083
unfolding bytes_of record_at between reaches adding back reached_first reached_next asked put take_out merge within lower upper depth_text row_line
    decimal stations_to stations_text route_line base_line set_line list_refusal check replaceable action_word first_line last_line taken stepped
    started record_step run_refusal count_of file_refusal reached onward followed blocked lacks cleared lost probe replaced beside step ite has insert
    remove union cut below from size least drop_least upper_half lower_half split_key ones_in count_trailing_zeros
computed0083 = refl

pub printed0083 : printed (file_of file0083) ≡ text_of text0083
printed0083 = sym (quick_printed_printed (file_of file0083)) ∙ computed0083

-- ---- 0084

abbrev file0084 : List String
file0084 =
    "020104140a000025230000042300002000000010000000100000003428000030000000300000001237217b000000000000000010000000022d113e34"
    ∷ "1e0000300000003000000010000000200000000000000000000000100000003228134430000000241e00001532000000000000200000001000000020"
    ∷ "000000000000001000000022051ed9200000000000000030000000111e00003000000000000000000000000000000034190000200000001000000000"
    ∷ "000000200000000000000000000000040000001514000020000000100000000000000020000000200000002000000010000000300000003000000030"
    ∷ "000000342d00000000000022141345200000002000000000000000300000002000000002320000200000003000000020000000241400003000000000"
    ∷ "000000000000000000000020000000200000003000000020000000200000001214140230000000000000000000000010000000200000001000000022"
    ∷ "05000020000000200000001000000030000000100000000000000020000000100000003219270f100000002000000020000000000000002000000010"
    ∷ "00000030000000241400003000000020000000300000002000000030000000300000000000000030000000122820a610000000000000003000000020"
    ∷ "000000200000001000000000000000200000000000000010000000000000000000000010000000340000003000000002280000300000000000000000"
    ∷ "0000002000000010000000200000003000000000000000220a0000100000002000000010000000000000003000000031140000100000002000000030"
    ∷ "000000000000003000000020000000000000000000000010000000000000000123000000000000000000003000000020000000100000002000000000"
    ∷ "000000200000003000000034190000220a00000000000030000000040000002000000030000000300000000000000030000000000000002000000030"
    ∷ "000000200000003000000030000000300000000000000010000000100000002000000000000000321908572000000000000000300000000000000030"
    ∷ "000000052d00000000000000000000300000001000000010000000300000000000000000000000000000003000000010000000000000002000000000"
    ∷ "000000000000000000000030000000200000002000000000000000000000001000000000000000000000000000000020000000150f00001000000010"
    ∷ "000000300000003000000020000000200000003528000030000000000000003000000010000000300000001000000030000000300000001000000030"
    ∷ "000000100000001000000000000000300000003000000030000000100000001000000020000000100000001000000020000000100000002000000030"
    ∷ "0000002000000010000000200000000000000020000000"
    ∷ []

abbrev text0084 : List String
text0084 =
    "records 260 of 260 refusal 0;t1 split 10 no;t3 split 40 no;t0 split 35 no;t3 split 30 no;t2 join 35 no;t1 insert 55 yes;"
    ∷ "t2 split 30 no;t1 join 50 no;t3 insert 40 yes;t1 lookup 30 no;t0 insert 45 yes;t2 insert 5 yes;t1 join 20 no;t3 split 25"
    ∷ " yes;t0 split 0 no;t2 insert 20 yes;t2 split 20 yes;t3 split 45 yes;t2 insert 5 no;t1 insert 20 no;t3 insert 25 yes;t0 i"
    ∷ "nsert 50 yes;t2 split 20 yes;t3 split 0 no;t0 insert 40 no;t2 insert 10 yes;t3 lookup 20 yes 5122;t0 lookup 35 no;t3 spl"
    ∷ "it 25 yes;t0 split 0 yes;t1 insert 40 no;t3 insert 25 no;0 route 45;1 route 20;2 route 10;3 neighbour 5=0;3 main 10=0;2 "
    ∷ "route 25;3 normal 20=5122;3 route 40;4 normal 25=2135;4 normal 40=8358;1 route 55;2 main 45=4414 50=0;2 neighbour 55=857"
    ∷ "1;set 5=0 10=0 20=5122 25=2135 40=8358 45=4414 50=0 55=8571;stored 8 used 37;"
    ∷ []

computed0084 : quick_printed (file_of file0084) ≡ text_of text0084
unfolding bytes_of record_at between reaches adding back reached_first reached_next asked put take_out merge within lower upper depth_text row_line
    decimal stations_to stations_text route_line base_line set_line list_refusal check replaceable action_word first_line last_line taken stepped
    started record_step run_refusal count_of file_refusal reached onward followed blocked lacks cleared lost probe replaced beside step ite has insert
    remove union cut below from size least drop_least upper_half lower_half split_key ones_in count_trailing_zeros
computed0084 = refl

pub printed0084 : printed (file_of file0084) ≡ text_of text0084
printed0084 = sym (quick_printed_printed (file_of file0084)) ∙ computed0084
