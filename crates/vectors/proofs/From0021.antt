-- Schedules of tests/vectors and the text that the definitions print for each, computed by the checker. Written by tests/vectors/definitions.
use mathlib.Core.Path.{◌≡◌, refl, sym, ◌∙◌}
use mathlib.Core.List.{List, [], ◌∷◌}
use Prim.Native.String.{String}
use lib.Count.{ones_in, count_trailing_zeros}
use Rattle.container.specs.Choice.{ite}
use Rattle.container.specs.Container.{has, insert, remove, union, cut, below, from, size, least, drop_least, upper_half, lower_half, split_key}
use Rattle.container.specs.Depths.{put, take_out, merge, within, lower, upper}
use Rattle.definitions.specs.Nodes.{check, replaceable}
use Rattle.definitions.specs.Frames.{between, reaches, adding, back}
use Rattle.definitions.specs.Steps.{reached, onward, followed, blocked, lacks, cleared, lost, probe, replaced, beside, reached_first, reached_next, step}
use Rattle.definitions.specs.Records.{taken, stepped, started, asked, record_step}
use Rattle.definitions.specs.Schedule.{count_of, record_at, file_refusal}
use Rattle.definitions.specs.Run.{bytes_of, run_refusal}
use Rattle.definitions.specs.Listing.{decimal, stations_to, stations_text, route_line, base_line, set_line, list_refusal}
use Rattle.definitions.specs.Printed.{action_word, first_line, depth_text, row_line, last_line, printed}
use Rattle.definitions.proofs.Quick.{quick_printed, quick_printed_printed}
use Rattle.vectors.proofs.Written.{file_of, text_of}

-- ---- 0021

abbrev file0021 : List String
file0021 =
    "01022e022d000000000000022c000000000000052f222f200020002000222c20001231100010001000122f20002000100010001000122d3230200020"
    ∷ "002000100010001000153110001000200030001230100030003000353030003000322e20002000200020002231200020001000000030003000300031"
    ∷ "313000352e300000002000022c000000000000022c000000000000022e000000000000022d000000000000032f000000000000052d10001000100010"
    ∷ "00100030003231300030003000322f2000200020002000252c2000200011311000122f22302000100010001000122e100010001000122c1000000000"
    ∷ "00022f000000002000300030003000322c00000000000020002000200020002000252c300030003000000000000000000000000000032f0000000000"
    ∷ "002000200021312000222d200020002000252f20002000222f200020002000252e20002000222e200020001000100010001000100010001230100010"
    ∷ "00100020002000200015302000352c30003000322d3000300030001000022e000000000000022d000000000000012e0000052f352e30002000200000"
    ∷ "000000052e00001000112c1000152e10001000123010000000200020002000212d2000222e200020002000222c3000332e300030003000352d300030"
    ∷ "00022e000000000000032d000000000000023100000000000001300000022e00000000100010001000100010001000122d1000100000000000000000"
    ∷ "000000022c0000000000001000200020002000222e200020003231300030003000322c20002000200020002000052c00000000053100000000032d00"
    ∷ "0030001000100010001000152e100010001230100010001000000000000000000000000000012e0000052e000000000330000000000000122f100022"
    ∷ "300230000000003000300030003000300030003531300030003231000010001000100010001000100020002000200000000000122e10001000100022"
    ∷ "2e20000000000000003000300030000000000000000231000000000000052d000000000231000000000000023020002000200020000000312f300032"
    ∷ "2e1230100000000000022d00000000300030003000322e20002000200020002000300030003000352c30001000100020002000200000002000200022"
    ∷ "2c200010001000100010001231100010001000122d200020000000000000000000023000000000000020002000200020002230200020002000222e20"
    ∷ "0020002000100010001000132f1000100010001230100010003000312c3000322e300030003000312c3000352d30003000332f300030003000352f22"
    ∷ "3130003000352f2000200020002230200020002000252d022c0000000000000230000000001000100030003000313130003531300030000000052f00"
    ∷ "0020001000200021302000252e2000200010001000122c100010001000122d10001000222c20002000312e30002000222c2000200020002230200020"
    ∷ "002000222c20000000022e00000000352f30000000100010001000100020002000200020003000"
    ∷ []

abbrev text0021 : List String
text0021 =
    "records 558 of 558 refusal 0;t0 insert 45 yes;t0 insert 44 yes;t2 insert 47 yes;t1 insert 49 yes;t1 insert 47 no;t1 inse"
    ∷ "rt 45 no;t1 join 49 no;t3 insert 48 yes;t3 join 48 no;t2 insert 44 no;t3 insert 46 yes;t3 lookup 49 yes;t0 join 47 no;t0"
    ∷ " insert 44 no;t0 insert 44 no;t0 insert 46 no;t0 insert 45 no;t0 remove 47 yes;t1 insert 48 no;t3 join 46 no;t3 insert 4"
    ∷ "9 no;t2 insert 49 no;t2 join 44 no;t1 lookup 49 yes;t1 insert 47 yes;t1 insert 46 no;t0 join 45 no;t3 insert 47 no;t2 in"
    ∷ "sert 48 no;t3 insert 44 no;t0 insert 47 no;t0 remove 47 yes;t2 join 44 no;t2 lookup 49 yes;t2 insert 45 no;t2 join 47 no"
    ∷ ";t2 insert 47 yes;t2 join 46 no;t1 insert 44 no;t1 insert 48 no;t3 join 44 no;t3 insert 45 no;t0 insert 46 no;t0 insert "
    ∷ "45 no;t0 lookup 46 yes;t0 join 47 no;t1 join 48 no;t1 lookup 44 yes;t1 join 46 no;t0 join 46 no;t2 insert 46 no;t2 looku"
    ∷ "p 45 yes;t2 insert 46 no;t3 join 46 no;t3 remove 46 yes;t3 join 45 no;t0 insert 46 yes;t0 remove 45 yes;t0 insert 49 no;"
    ∷ "t0 lookup 48 yes;t1 insert 48 no;t0 insert 46 no;t0 insert 44 no;t2 insert 44 no;t3 insert 49 no;t2 insert 46 no;t0 join"
    ∷ " 44 no;t0 join 49 no;t1 insert 45 yes;t1 join 46 no;t1 insert 48 no;t0 remove 45 yes;t0 lookup 46 yes;t0 join 46 no;t0 r"
    ∷ "emove 48 yes;t3 insert 44 no;t3 join 49 no;t1 insert 47 no;t2 insert 48 yes;t1 insert 46 no;t3 insert 49 no;t0 insert 48"
    ∷ " no;t0 insert 49 no;t0 join 45 no;t0 insert 49 no;t3 lookup 47 yes;t0 insert 48 no;t3 insert 46 no;t3 insert 46 no;t2 in"
    ∷ "sert 46 no;t1 insert 48 no;t1 insert 49 no;t0 insert 45 yes;t0 insert 48 no;t2 insert 44 no;t2 insert 48 no;t2 insert 46"
    ∷ " no;t1 insert 45 no;t1 remove 47 yes;t3 join 44 no;t3 lookup 44 yes;t3 insert 46 no;t3 lookup 44 yes;t3 join 45 no;t3 re"
    ∷ "move 47 no;t3 join 47 no;t2 insert 49 no;t2 insert 48 no;t0 insert 44 no;t3 join 47 no;t3 lookup 49 yes;t3 join 49 no;t0"
    ∷ " insert 48 no;t2 join 45 no;t2 lookup 48 yes;t2 join 46 no;t1 insert 48 no;t1 insert 44 no;t3 lookup 46 yes;t2 insert 44"
    ∷ " no;t2 insert 44 no;t2 insert 48 no;t0 join 47 no;t0 insert 46 no;t3 join 47 no;0 normal 44 45 46 48 49;set 44 45 46 48 "
    ∷ "49;stored 5 used 81;"
    ∷ []

computed0021 : quick_printed (file_of file0021) ≡ text_of text0021
unfolding bytes_of record_at between reaches adding back reached_first reached_next asked put take_out merge within lower upper depth_text row_line
    decimal stations_to stations_text route_line base_line set_line list_refusal check replaceable action_word first_line last_line taken stepped
    started record_step run_refusal count_of file_refusal reached onward followed blocked lacks cleared lost probe replaced beside step ite has insert
    remove union cut below from size least drop_least upper_half lower_half split_key ones_in count_trailing_zeros
computed0021 = refl

pub printed0021 : printed (file_of file0021) ≡ text_of text0021
printed0021 = sym (quick_printed_printed (file_of file0021)) ∙ computed0021

-- ---- 0022

abbrev file0022 : List String
file0022 =
    "01002e020e00000000000003110000000000000210000000001312100010001000151110001000151210001000121110001000000000000000000000"
    ∷ "00020e000000000000051100000000051000000000050f000000000111000002120000"
    ∷ []

abbrev text0022 : List String
text0022 =
    "records 46 of 46 refusal 0;t0 insert 14 yes;t0 remove 17 no;t1 remove 18 no;t1 join 17 no;t1 join 18 no;t0 insert 16 yes"
    ∷ ";t0 insert 14 no;t0 join 17 no;t0 join 16 no;t0 join 15 no;t0 lookup 17 no;0 normal 14 16;set 14 16;stored 2 used 6;"
    ∷ []

computed0022 : quick_printed (file_of file0022) ≡ text_of text0022
unfolding bytes_of record_at between reaches adding back reached_first reached_next asked put take_out merge within lower upper depth_text row_line
    decimal stations_to stations_text route_line base_line set_line list_refusal check replaceable action_word first_line last_line taken stepped
    started record_step run_refusal count_of file_refusal reached onward followed blocked lacks cleared lost probe replaced beside step ite has insert
    remove union cut below from size least drop_least upper_half lower_half split_key ones_in count_trailing_zeros
computed0022 = refl

pub printed0022 : printed (file_of file0022) ≡ text_of text0022
printed0022 = sym (quick_printed_printed (file_of file0022)) ∙ computed0022

-- ---- 0023

abbrev file0023 : List String
file0023 =
    "0101ec120b1000220a350a30003000320a30003000300002090000200010002000340c30002000250b00000000000000000000300032090000020910"
    ∷ "001000300000000000000030003000200020003000100005090000300030003000340c250a200010002000240c300010001000100010001000300030"
    ∷ "000000200020001109020a0000000032092000000000003000210c0000000020002000220b300030001000300030003409300030003000320c300030"
    ∷ "003000300010002000200030003000310c30003000340b140b100010003000300030003000300020003000340a300030003000300020001000320a20"
    ∷ "0020002000200020002000100010003000120b200020002000300030003000100010002509200020001000200030003000350c300030003000300030"
    ∷ "000000000000003000300030003000200020003000300030003000300030001000100010003000000000000000000010001000100010002000200030"
    ∷ "0030003000240c30001000200020002000100010001000100010001000100010002000220c0000000000000000200010001000100010001000000020"
    ∷ "0000000000000000001000200030001000110b10002000200020002000200030003000100030003000320c150c100010001000000000000000000000"
    ∷ "000000050c000010001000140c10001000100010001000300030000000300000003000300030003409300030002000200000001000110c0000020b00"
    ∷ "002000200000000000000000000000020c3000000010001000140b200020002000320b30001000200000000000300020002000240b20002000200010"
    ∷ "0010002000200000000000100010001000140b1000100020000000000010001000000000003000210930003000300010001000100030003000300011"
    ∷ "0a1000100030003000200020002109200020002209200000001000140a10001000100010001209100010001000000020002000200020001000220b20"
    ∷ "0030003000320b200000000000300030000000000000003000300000000000200010001000000000000000050c100000000000100010001000100020"
    ∷ "00120c1000100020001000100020002000240a300030001000100010001000110b10001000200030003000200020002000250b300030002000200030"
    ∷ "002000200020002000000000000000300030001000100030003000320b0000200020002000240c30003000150a100010001000100020001000100010"
    ∷ "002000200020002000210a20003000100010001000100010001000200020003000300030003000300022092000100010001000100010001000000020"
    ∷ "0020001000140a3000200020002109200030003000200010002409"
    ∷ []

abbrev text0023 : List String
text0023 =
    "records 492 of 492 refusal 0;t3 join 10 no;t3 insert 10 yes;t2 insert 10 no;t3 split 12 no;t0 insert 9 yes;t0 insert 9 n"
    ∷ "o;t2 join 11 no;t3 insert 9 no;t2 join 10 no;t1 insert 11 yes;t3 split 12 no;t0 join 9 no;t2 split 12 yes;t2 lookup 12 n"
    ∷ "o;t3 insert 9 no;t3 split 9 no;t1 lookup 9 yes;t3 insert 12 yes;t3 lookup 12 yes;t3 split 11 yes;t3 split 10 no;t1 split"
    ∷ " 11 no;t2 insert 11 no;t3 insert 10 no;t2 join 9 no;t2 split 12 no;t1 insert 11 no;t1 lookup 11 yes;t3 join 12 yes;t0 in"
    ∷ "sert 10 no;t1 join 12 no;t3 insert 12 no;t1 split 12 no;t0 join 12 no;t0 insert 11 no;t3 split 9 no;t1 lookup 12 yes;t2 "
    ∷ "insert 12 no;t1 split 11 yes;t2 split 11 no;t1 split 11 yes;t2 lookup 9 yes;t2 lookup 9 yes;t1 lookup 10 yes;t1 split 10"
    ∷ " no;t2 insert 9 no;t3 insert 11 no;t0 insert 12 no;t1 insert 9 no;t2 insert 11 no;t1 insert 12 no;t2 split 10 no;t1 look"
    ∷ "up 11 yes;t3 insert 11 no;t2 join 11 no;t2 split 12 no;t2 lookup 10 yes;t1 join 10 no;t2 insert 9 no;t2 lookup 9 yes;0 r"
    ∷ "oute 10;1 normal 9;1 route 11;2 main 10;2 route 12;3 neighbour 11;3 normal 12;set 9 10 11 12;stored 4 used 41;"
    ∷ []

computed0023 : quick_printed (file_of file0023) ≡ text_of text0023
unfolding bytes_of record_at between reaches adding back reached_first reached_next asked put take_out merge within lower upper depth_text row_line
    decimal stations_to stations_text route_line base_line set_line list_refusal check replaceable action_word first_line last_line taken stepped
    started record_step run_refusal count_of file_refusal reached onward followed blocked lacks cleared lost probe replaced beside step ite has insert
    remove union cut below from size least drop_least upper_half lower_half split_key ones_in count_trailing_zeros
computed0023 = refl

pub printed0023 : printed (file_of file0023) ≡ text_of text0023
printed0023 = sym (quick_printed_printed (file_of file0023)) ∙ computed0023

-- ---- 0024

abbrev file0024 : List String
file0024 =
    ""
    ∷ []

abbrev text0024 : List String
text0024 =
    "records 0 of 0 refusal 1;"
    ∷ []

computed0024 : quick_printed (file_of file0024) ≡ text_of text0024
unfolding bytes_of record_at between reaches adding back reached_first reached_next asked put take_out merge within lower upper depth_text row_line
    decimal stations_to stations_text route_line base_line set_line list_refusal check replaceable action_word first_line last_line taken stepped
    started record_step run_refusal count_of file_refusal reached onward followed blocked lacks cleared lost probe replaced beside step ite has insert
    remove union cut below from size least drop_least upper_half lower_half split_key ones_in count_trailing_zeros
computed0024 = refl

pub printed0024 : printed (file_of file0024) ≡ text_of text0024
printed0024 = sym (quick_printed_printed (file_of file0024)) ∙ computed0024

-- ---- 0025

abbrev file0025 : List String
file0025 =
    "0101ad241220001113100031113000200022173413300001110000300032152000011612121000200030002000251500000415200020002416200020"
    ∷ "001000100010003000241720002000241430000000300030003000300020002000200024152000200020002116200020003411100023152000200000"
    ∷ "002000300030003000331630003000200020002212200020000313100000003000200030001000200020002115200010000000300020002113100010"
    ∷ "000000000030003000300030003000300033123000200020001000100010001000100015151000300030000000251420002000000000000000300030"
    ∷ "003517100010000000100010003000300030003000300020002000200030003000300030003000300030003000300030000000000030003000300030"
    ∷ "003000351730000000000010001000141510002414200020002413200020000000000001170000100004160000141310001000141310003000351300"
    ∷ "000116000010001315011130003000341500001000051424151000100020002000300022151414300000000000031400000000000033151000100011"
    ∷ "151000121410001000100004112000200020002414300000000000000011110113100010001411100010003000200010002000200024171517100000"
    ∷ "000000031400001000300020002000200000000000200000000000300030003000300030003000300010001000100011121000351530003000100030"
    ∷ "001115200025112000200020002000041300000000000001120000000005151000200000000000000000000000000020002000200010001114100010"
    ∷ "002000000030003000300030002000141700001000100005130000000000000413311230000000300035173000300030003517200020002000200000"
    ∷ "000000300020002000200020002000200005170000000002131000300030003313300020002417200020003000300024142000200035133000251220"
    ∷ "002000221614170000000010003000200010001311200020001000100010001412341430001000100030003000311530002417200030003113000000"
    ∷ "000000000010001117000000000000300004140000000000001000200030001000151710001000100010001000100010001000100010001000100034"
    ∷ "143000000000000111200000000000031700000000"
    ∷ []

abbrev text0025 : List String
text0025 =
    "records 429 of 429 refusal 0;t1 lookup 19 no;t3 lookup 17 no;t2 split 18 no;t0 lookup 17 no;t3 split 19 no;t2 insert 23 "
    ∷ "yes;t0 lookup 22 no;t2 join 21 no;t2 split 22 no;t2 split 23 no;t3 insert 21 yes;t2 split 20 yes;t2 split 21 no;t2 looku"
    ∷ "p 22 no;t0 split 21 no;t3 split 17 no;t2 remove 21 yes;t2 insert 18 yes;t2 lookup 21 no;t3 remove 22 no;t2 lookup 19 no;"
    ∷ "t1 insert 18 no;t3 remove 18 yes;t2 join 20 no;t3 join 23 yes;t1 join 21 no;t2 split 20 no;t2 split 19 no;t0 remove 19 n"
    ∷ "o;t0 lookup 23 yes;t1 split 21 no;t1 split 19 no;t3 join 23 no;t0 split 22 no;t0 lookup 22 no;t1 split 19 no;t3 join 19 "
    ∷ "no;t0 lookup 17 no;t1 remove 21 no;t2 split 21 no;t3 split 21 no;t0 join 20 no;t0 remove 20 no;t1 split 20 no;t1 lookup "
    ∷ "21 no;t1 insert 20 yes;t2 insert 21 yes;t0 split 17 yes;t1 lookup 17 no;t1 split 17 no;t2 split 20 no;t0 lookup 19 no;t0"
    ∷ " remove 20 yes;t3 remove 21 yes;t1 join 23 no;t1 lookup 18 no;t2 split 23 no;t0 split 19 no;t0 lookup 18 no;t1 lookup 21"
    ∷ " no;t1 lookup 20 no;t3 join 21 no;t0 join 21 no;t0 join 19 no;t3 lookup 18 no;t3 join 23 no;t0 split 19 no;t0 join 23 no"
    ∷ ";t1 split 23 no;t3 join 23 no;t2 join 17 yes;t2 split 23 no;t3 remove 19 no;t2 split 20 no;t2 join 18 no;t3 join 19 no;t"
    ∷ "1 split 23 no;t2 insert 22 yes;t1 remove 17 no;t3 split 20 yes;t3 lookup 21 no;t1 split 18 no;t0 insert 19 yes;t3 lookup"
    ∷ " 19 yes;t1 lookup 23 yes;t0 split 20 no;t2 split 23 no;t0 lookup 17 no;0 route 23;1 neighbour 19 22;1 main 23;set 19 22 "
    ∷ "23;stored 3 used 36;"
    ∷ []

computed0025 : quick_printed (file_of file0025) ≡ text_of text0025
unfolding bytes_of record_at between reaches adding back reached_first reached_next asked put take_out merge within lower upper depth_text row_line
    decimal stations_to stations_text route_line base_line set_line list_refusal check replaceable action_word first_line last_line taken stepped
    started record_step run_refusal count_of file_refusal reached onward followed blocked lacks cleared lost probe replaced beside step ite has insert
    remove union cut below from size least drop_least upper_half lower_half split_key ones_in count_trailing_zeros
computed0025 = refl

pub printed0025 : printed (file_of file0025) ≡ text_of text0025
printed0025 = sym (quick_printed_printed (file_of file0025)) ∙ computed0025

-- ---- 0026

abbrev file0026 : List String
file0026 =
    "01006f043f00000000033c000000000000023b000000000000023f000000000000043b000000000000143f100010001000343e043d00000000000003"
    ∷ "380000133710001000243f2000100010001000143b100010001000143c10001000100000000000133d10003000300010001000100010001239100010"
    ∷ "0010001000100012381000000000003000343c30003000300030001000100010001000143e1000100010000000000000000000300032393000100010"
    ∷ "00143b100010003000300030003000300000000000000020002000000000000000000010001000100010001000"
    ∷ []

abbrev text0026 : List String
text0026 =
    "records 111 of 111 refusal 0;t0 split 63 no;t0 remove 60 no;t0 insert 59 yes;t0 insert 63 yes;t0 split 59 yes;t1 split 6"
    ∷ "3 no;t0 split 61 no;t1 remove 55 no;t1 split 59 no;t1 split 60 no;t1 remove 61 no;t1 insert 57 yes;t3 split 62 no;t1 ins"
    ∷ "ert 56 yes;t3 split 60 no;t1 split 62 yes;t2 split 63 no;t1 split 59 yes;0 route 63;1 route 57;2 normal 56;2 route 59;3 "
    ∷ "normal 57;3 normal 59;1 normal 63;set 56 57 59 63;stored 4 used 17;"
    ∷ []

computed0026 : quick_printed (file_of file0026) ≡ text_of text0026
unfolding bytes_of record_at between reaches adding back reached_first reached_next asked put take_out merge within lower upper depth_text row_line
    decimal stations_to stations_text route_line base_line set_line list_refusal check replaceable action_word first_line last_line taken stepped
    started record_step run_refusal count_of file_refusal reached onward followed blocked lacks cleared lost probe replaced beside step ite has insert
    remove union cut below from size least drop_least upper_half lower_half split_key ones_in count_trailing_zeros
computed0026 = refl

pub printed0026 : printed (file_of file0026) ≡ text_of text0026
printed0026 = sym (quick_printed_printed (file_of file0026)) ∙ computed0026
